-- What was read of files so far, and why reading stops.
use Rattle.std.proofs.Common.{◌≡◌, ◌+◌, ◌<◌, ◌≤◌, ℕ, List, [], ◌∷◌, ◌++◌, length, map, take, drop, get_or, Option, Result, Ok, Err, IfErr, IsErr, IsErrAnd, refl, sym, ap, subst, ◌∙◌, append-nil, append_assoc, arith}
use Rattle.std.proofs.lemmas.List.{drop_more, get_or-map, length-map, map-append, take-append-drop, take_all, take_more}
use Rattle.yd_words.proofs.EachLemmas.{each_append}
use Rattle.yd_words.specs.Each.{Each}
use Rattle.yd_ops.specs.Valid.{IsValidUpdate}
use Rattle.yd_world.specs.Shelf.{HasName, Shelf}
use Rattle.yd_files.proofs.ToldLemmas.{accepted_here, keeps_all, keeps_more, named_here, stops_before, verdict_before}
use Rattle.yd_files.specs.Counts.{Count, count_of}
use Rattle.yd_files.specs.Files.{File}
use Rattle.yd_files.specs.Loading.{KeepsFiles}
use Rattle.yd_files.specs.Reading.{ReadsOne, StopsAmong, StopsReading, TakesFiles, no_inputs, with_content}
use Rattle.yd_files.specs.Seen.{file_of}
use Rattle.yd_files.specs.Verdict.{AreRead, Content, HasVerdict, Inputs, IsReached, IsTold, NoneIsMissing, StandFor, accepted, inputs_in, scripts_in, scripts_of, updates_in, updates_of, vectors_in, vectors_of}
use Rattle.yd_files.specs.declared.fault.FileFault.{FileFault}
use Rattle.yd_files.specs.declared.fault.FileFault.TheVariants.{Refused, ReadFault, TooLarge, NoMemory}
use Rattle.yd_files.specs.declared.file.File.{File as FileSeen}
use Rattle.yd_files.specs.declared.kind.Kind.{Kind}

-- ---- contents

-- one file more is accepted
read_more : (told : Option Shelf) (files : List File) (file : File) (contents : List Content) (content : Content) → AreRead told files contents → HasVerdict told file (accepted content)
    → AreRead told (files ++ file ∷ []) (contents ++ content ∷ [])
read_more told [] file [] content read has = (has, tt)
read_more told [] file (c ∷ cs) content read has = absurd read
read_more told (f ∷ fs) file [] content read has = absurd read
read_more told (f ∷ fs) file (c ∷ cs) content read has = (read.0, read_more told fs file cs content read.1 has)

-- and its updates stand behind the others
updates_more : (contents : List Content) (content : Content) → updates_in (contents ++ content ∷ []) ≡ updates_in contents ++ updates_of content
updates_more [] content = append-nil (updates_of content)
updates_more (c ∷ cs) content = ap (λ us. updates_of c ++ us) (updates_more cs content) ∙ sym (append_assoc (updates_of c) (updates_in cs) (updates_of content))

-- and its state vectors
vectors_more : (contents : List Content) (content : Content) → vectors_in (contents ++ content ∷ []) ≡ vectors_in contents ++ vectors_of content
vectors_more [] content = append-nil (vectors_of content)
vectors_more (c ∷ cs) content = ap (λ vs. vectors_of c ++ vs) (vectors_more cs content) ∙ sym (append_assoc (vectors_of c) (vectors_in cs) (vectors_of content))

-- and its scripts
scripts_more : (contents : List Content) (content : Content) → scripts_in (contents ++ content ∷ []) ≡ scripts_in contents ++ scripts_of content
scripts_more [] content = append-nil (scripts_of content)
scripts_more (c ∷ cs) content = ap (λ ss. scripts_of c ++ ss) (scripts_more cs content) ∙ sym (append_assoc (scripts_of c) (scripts_in cs) (scripts_of content))

-- and so what all stand for
inputs_more : (files : List File) (file : File) (contents : List Content) (content : Content) → inputs_in (files ++ file ∷ []) (contents ++ content ∷ []) ≡ with_content (inputs_in files contents) file.kind content
inputs_more files file contents content =
    let kinds : map (λ (f : File). f.kind) (files ++ file ∷ []) ≡ map (λ (f : File). f.kind) files ++ file.kind ∷ [] = map-append (λ (f : File). f.kind) files (file ∷ []) in
    let vectors = vectors_more contents content in
    let scripts = scripts_more contents content in
    let updates = updates_more contents content in
    ap (λ (ks : List Kind). record { kinds = ks; vectors = vectors_in (contents ++ content ∷ []); scripts = scripts_in (contents ++ content ∷ []); updates = updates_in (contents ++ content ∷ []) }) kinds
    ∙ ap (λ vs. record { kinds = map (λ (f : File). f.kind) files ++ file.kind ∷ []; vectors = vs; scripts = scripts_in (contents ++ content ∷ []); updates = updates_in (contents ++ content ∷ []) }) vectors
    ∙ ap (λ ss. record { kinds = map (λ (f : File). f.kind) files ++ file.kind ∷ []; vectors = vectors_in contents ++ vectors_of content; scripts = ss; updates = updates_in (contents ++ content ∷ []) }) scripts
    ∙ ap (λ us. record { kinds = map (λ (f : File). f.kind) files ++ file.kind ∷ []; vectors = vectors_in contents ++ vectors_of content; scripts = scripts_in contents ++ scripts_of content; updates = us }) updates

-- ---- why reading stops

-- at a file that is reached
stops_among : (Calm : Type 0) (told next : Option Shelf) (files : List File) (file : File) (reads : Count) (fault : FileFault) → IsReached told files file → StopsReading Calm told next file reads fault
    → StopsAmong Calm told next files reads fault
stops_among Calm told next files file reads (Refused other cause spot) reached s =
    rw s.0 (record { reached = reached; not_accepted = tt; verdict_is = s.1 })
stops_among Calm told next files file reads (ReadFault other) reached s =
    (s.1, rw s.0 (record { reached = reached; begun = s.2; is_missing = s.3 }))
stops_among Calm told next files file reads (TooLarge other) reached s =
    rw s.0 (record { reached = reached; not_accepted = tt; verdict_is = s.1 })
stops_among Calm told next files file reads NoMemory reached s = tt

-- ---- lemmas for callers

-- the files in front of this one are accepted, and were taken; the library tells the same files, its count did not fall, and where it
-- was calm, it is so
pub record SoFar (told now : Option Shelf) (faults faults_now : ℕ) (Calm CalmNow : Type 0) (files : List File) (index : ℕ) (Took : Inputs → Type 0) : Type 0 where
  pub inputs : Inputs
  pub stand : StandFor told (take index files) inputs
  pub valid : Each IsValidUpdate inputs.updates
  pub took : Took inputs
  pub keeps : KeepsFiles told now
  pub counts : faults ≤ faults_now
  pub calm : Calm → IsTold told → CalmNow × (faults_now ≡ faults)

-- before the first file there is nothing
pub so_far_none : (told : Option Shelf) (faults : ℕ) (Calm : Type 0) (files : List File) (Took : Inputs → Type 0) → Took no_inputs → SoFar told told faults faults Calm Calm files 0 Took
so_far_none told faults Calm files Took took = record {
  inputs = no_inputs;
  stand = record { contents = []; are_read = tt; inputs_are = refl };
  valid = tt;
  took = took;
  keeps = keeps_all told;
  counts = omega arith;
  calm = λ calmly is_told. (calmly, refl);
}

-- the file of this number
item_at : (seen : List FileSeen) (index : ℕ) (any : FileSeen) → index < length seen → get_or (map file_of seen) index (file_of any) ≡ file_of (get_or seen index any)
item_at seen index any lt = get_or-map file_of seen index any (file_of any) lt

-- it is reached
reached_at : {told now : Option Shelf} {faults faults_now : ℕ} {Calm CalmNow : Type 0} {Took : Inputs → Type 0} (seen : List FileSeen) (index : ℕ) (any : FileSeen) → index < length seen
    → SoFar told now faults faults_now Calm CalmNow (map file_of seen) index Took → IsReached told (map file_of seen) (file_of (get_or seen index any))
reached_at seen index any lt s =
    let files = map file_of seen in
    let rest : drop index files ≡ file_of (get_or seen index any) ∷ drop (index + 1) files =
    drop_more files index (file_of any) (omega (arith, lt, length-map seen file_of)) ∙ ap (λ (f : File). f ∷ drop (index + 1) files) (item_at seen index any lt) in
    record {
      before = take index files;
      behind = drop (index + 1) files;
      contents = s.stand.contents;
      files_are = sym (take-append-drop index files) ∙ ap (λ (fs : List File). take index files ++ fs) rest;
      are_read = s.stand.are_read;
    }

-- why reading stopped there
pub stops_at : {told now : Option Shelf} {faults faults_now : ℕ} {Calm CalmNow : Type 0} {Took : Inputs → Type 0} (next : Option Shelf) (seen : List FileSeen) (index : ℕ) (any : FileSeen) (later : ℕ) (fault : FileFault) → index < length seen
    → SoFar told now faults faults_now Calm CalmNow (map file_of seen) index Took → faults_now ≤ later → StopsReading CalmNow now next (file_of (get_or seen index any)) (count_of faults_now later) fault → StopsAmong Calm told next (map file_of seen) (count_of faults later) fault
stops_at {told} {now} {faults} {faults_now} {Calm} {CalmNow} next seen index any later fault lt s more stops =
    let file = file_of (get_or seen index any) in
    stops_among Calm told next (map file_of seen) file (count_of faults later) fault (reached_at seen index any lt s)
    (stops_before Calm CalmNow told now next file faults faults_now later fault s.keeps s.counts more (λ calmly is_told. (s.calm calmly is_told).0) stops)

-- where none is missing, it is there
pub named_at : {told now : Option Shelf} {faults faults_now : ℕ} {Calm CalmNow : Type 0} {Took : Inputs → Type 0} (seen : List FileSeen) (index : ℕ) (any : FileSeen) → index < length seen
    → SoFar told now faults faults_now Calm CalmNow (map file_of seen) index Took → IsTold told → NoneIsMissing told (map file_of seen) → HasName now (file_of (get_or seen index any)).name
named_at {told} {now} seen index any lt s is_told none = named_here told now (map file_of seen) (file_of (get_or seen index any)) s.keeps is_told none (reached_at seen index any lt s)

-- behind the file of this number
pub so_far_more : {told now next : Option Shelf} {faults faults_now later : ℕ} {Calm CalmNow CalmNext : Type 0} {Took TookNow : Inputs → Type 0} (seen : List FileSeen) (index : ℕ) (any : FileSeen) → index < length seen
    → SoFar told now faults faults_now Calm CalmNow (map file_of seen) index Took → ReadsOne now (file_of (get_or seen index any)) Took TookNow → KeepsFiles now next → faults_now ≤ later
    → (CalmNow → HasName now (file_of (get_or seen index any)).name → CalmNext × (later ≡ faults_now)) → SoFar told next faults later Calm CalmNext (map file_of seen) (index + 1) TookNow
so_far_more {told} {now} {next} seen index any lt s one keeps counts calm =
    let files = map file_of seen in
    let file = file_of (get_or seen index any) in
    let longer : take (index + 1) files ≡ take index files ++ file_of (get_or seen index any) ∷ [] =
    take_more files index (file_of any) (omega (arith, lt, length-map seen file_of)) ∙ ap (λ (f : File). take index files ++ f ∷ []) (item_at seen index any lt) in
    let contents = s.stand.contents ++ one.content ∷ [] in
    record {
      inputs = with_content s.inputs file.kind one.content;
      stand = record {
        contents = contents;
        are_read = subst (λ (fs : List File). AreRead told fs contents) (sym longer) (read_more told (take index files) (file_of (get_or seen index any)) s.stand.contents one.content s.stand.are_read (verdict_before told now (file_of (get_or seen index any)) (accepted one.content) s.keeps one.is_read));
        inputs_are = ap (λ (i : Inputs). with_content i file.kind one.content) s.stand.inputs_are ∙ sym (inputs_more (take index files) file s.stand.contents one.content) ∙ ap (λ (fs : List File). inputs_in fs contents) (sym longer);
      };
      valid = each_append IsValidUpdate s.inputs.updates (updates_of one.content) s.valid one.valid;
      took = one.taken s.inputs s.took;
      keeps = keeps_more told now next s.keeps keeps;
      counts = omega (arith, counts, s.counts);
      calm = λ calmly is_told.
          let before = s.calm calmly is_told in
          let after = calm before.0 (accepted_here told now file one.content s.keeps is_told one.is_read) in
          (after.0, after.1 ∙ before.1);
    }

-- behind the last file
pub so_far_all : {told now : Option Shelf} {faults faults_now : ℕ} {Calm CalmNow : Type 0} {Took : Inputs → Type 0} (seen : List FileSeen) (index : ℕ) → length seen ≤ index
    → SoFar told now faults faults_now Calm CalmNow (map file_of seen) index Took → TakesFiles told (map file_of seen) Took
so_far_all {told} seen index all s =
    let files = map file_of seen in
    let whole : take index files ≡ files = take_all index files (omega (arith, all, length-map seen file_of)) in
    record { inputs = s.inputs; stand = subst (λ (fs : List File). StandFor told fs s.inputs) whole s.stand; valid = s.valid; took = s.took }

-- an error that is passed on
pub stops_passed : {X : Type 0} (P : FileFault → Type 0) (result : Result X FileFault) (fault : FileFault) → IsErr result × IsErrAnd result (λ f. f ≡ fault) → P fault → IfErr result P
stops_passed P (Ok x) fault is p = tt
stops_passed P (Err other) fault is p = subst P (sym is.1) p
