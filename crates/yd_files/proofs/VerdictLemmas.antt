-- What a file is: one thing, and there always is one; and so of lists of files.
use Rattle.std.proofs.Common.{◌≡◌, ◌⊎◌, ◌^◌, ◌<◌, ◌≤◌, ℕ, List, [], ◌∷◌, ◌++◌, length, arith, Option, Some, None, Result, Ok, Err, inl, inr, refl, sym, subst, ap, ◌∙◌}
use Rattle.std.proofs.lemmas.Bool.{cases_lt}
use Rattle.yd_words.proofs.EachLemmas.{each_append}
use Rattle.yd_words.specs.Each.{Each}
use Rattle.yd_parts.specs.Fault.{Fault}
use Rattle.yd_ops.specs.Valid.{IsValidUpdate}
use Rattle.yd_world.specs.Shelf.{Shelf}
use Rattle.yd_files.proofs.KindLemmas.{read_exactly, reading_in}
use Rattle.yd_files.proofs.ValidLemmas.{stands_valid}
use Rattle.yd_files.specs.Law.{FilesAreJudged}
use Rattle.yd_files.specs.Verdict.{AreRead, Content, HasVerdict, Inputs, IsNotAccepted, IsReached, StandFor, StopsAt, Verdict, accepted, inputs_in, missing, refused, too_large, updates_in, updates_of}
use Rattle.yd_files.specs.Files.{File}
use Rattle.yd_files.specs.declared.kind.Kind.{Kind}

-- ---- one file

-- what a reading makes of a file
abbrev of_reading : Result Content Fault → Verdict
of_reading (Ok content) = accepted content
of_reading (Err fault) = refused fault

-- what bytes are that are there
abbrev of_sized : Kind → (bytes : List ℕ) → (2 ^ 28 < length bytes) ⊎ (length bytes ≤ 2 ^ 28) → Verdict
of_sized kind bytes (inl large) = too_large
of_sized kind bytes (inr within) = of_reading (reading_in kind bytes)

-- what is there under a name
abbrev of_bytes : Kind → Option (List ℕ) → Verdict
of_bytes kind None = missing
of_bytes kind (Some bytes) = of_sized kind bytes (cases_lt (2 ^ 28) (length bytes))

-- what a file is
abbrev verdict_in : Shelf → File → Verdict
verdict_in shelf file = of_bytes file.kind (shelf.bytes_under file.name)

-- bytes that are not too large are what reading makes of them
within_read : (kind : Kind) (bytes : List ℕ) (size : (2 ^ 28 < length bytes) ⊎ (length bytes ≤ 2 ^ 28)) → length bytes ≤ 2 ^ 28 → of_sized kind bytes size ≡ of_reading (reading_in kind bytes)
within_read kind bytes (inl large) within = absurd (omega (arith, large, within))
within_read kind bytes (inr small) within = refl

sized_large : (kind : Kind) (bytes : List ℕ) (size : (2 ^ 28 < length bytes) ⊎ (length bytes ≤ 2 ^ 28)) → 2 ^ 28 < length bytes → of_sized kind bytes size ≡ too_large
sized_large kind bytes (inl large) more = refl
sized_large kind bytes (inr small) more = absurd (omega (arith, small, more))

-- there is no other verdict
verdict_only : (shelf : Shelf) (file : File) (verdict : Verdict) → HasVerdict (Some shelf) file verdict → verdict ≡ verdict_in shelf file
verdict_only shelf file (accepted content) has =
    let read : reading_in file.kind has.0 ≡ Ok content = ((read_exactly file.kind).values has.0 content).1 has.2.1 in
    sym (ap (of_bytes file.kind) has.1 ∙ within_read file.kind has.0 (cases_lt (2 ^ 28) (length has.0)) has.2.0 ∙ ap of_reading read)
verdict_only shelf file (refused fault) has =
    let read : reading_in file.kind has.0 ≡ Err fault = ((read_exactly file.kind).faults has.0 fault).1 has.2.1 in
    sym (ap (of_bytes file.kind) has.1 ∙ within_read file.kind has.0 (cases_lt (2 ^ 28) (length has.0)) has.2.0 ∙ ap of_reading read)
verdict_only shelf file too_large has = sym (ap (of_bytes file.kind) has.1 ∙ sized_large file.kind has.0 (cases_lt (2 ^ 28) (length has.0)) has.2)
verdict_only shelf file missing has = sym (ap (of_bytes file.kind) has)

-- and there is this one
verdict_has : (shelf : Shelf) (file : File) → (verdict : Verdict) × HasVerdict (Some shelf) file verdict
verdict_has shelf file = by_bytes (shelf.bytes_under file.name) refl
  where
    by_reading : (bytes : List ℕ) (reading : Result Content Fault) → shelf.bytes_under file.name ≡ Some bytes → length bytes ≤ 2 ^ 28 → reading_in file.kind bytes ≡ reading → (verdict : Verdict) × HasVerdict (Some shelf) file verdict
    by_reading bytes (Ok content) is within read = (accepted content, (bytes, is, (within, ((read_exactly file.kind).values bytes content).0 read)))
    by_reading bytes (Err fault) is within read = (refused fault, (bytes, is, (within, ((read_exactly file.kind).faults bytes fault).0 read)))

    by_bytes : (found : Option (List ℕ)) → shelf.bytes_under file.name ≡ found → (verdict : Verdict) × HasVerdict (Some shelf) file verdict
    by_bytes None is = (missing, is)
    by_bytes (Some bytes) is =
        elim (cases_lt (2 ^ 28) (length bytes)) [
          | inl large ↦ (too_large, (bytes, is, large))
          | inr within ↦ by_reading bytes (reading_in file.kind bytes) is within refl
        ]

-- a file is one thing
verdict_one : (shelf : Shelf) (file : File) (verdict other : Verdict) → HasVerdict (Some shelf) file verdict → HasVerdict (Some shelf) file other → verdict ≡ other
verdict_one shelf file verdict other a b = verdict_only shelf file verdict a ∙ sym (verdict_only shelf file other b)

-- what is accepted is not objected to
accepted_apart : (shelf : Shelf) (file : File) (content : Content) (verdict : Verdict) → HasVerdict (Some shelf) file (accepted content) → HasVerdict (Some shelf) file verdict → IsNotAccepted verdict → ⊥
accepted_apart shelf file content verdict a b objects = by_verdict verdict (verdict_one shelf file (accepted content) verdict a b) objects
  where
    by_verdict : (v : Verdict) → accepted content ≡ v → IsNotAccepted v → ⊥
    by_verdict (accepted other) e o = o
    by_verdict (refused fault) e o = cc
    by_verdict too_large e o = cc
    by_verdict missing e o = cc

-- ---- lists of files

-- two lists of contents are one
contents_one : (shelf : Shelf) (files : List File) (contents others : List Content) → AreRead (Some shelf) files contents → AreRead (Some shelf) files others → contents ≡ others
contents_one shelf [] [] [] a b = refl
contents_one shelf [] [] (v ∷ vs) a b = absurd b
contents_one shelf [] (u ∷ us) others a b = absurd a
contents_one shelf (file ∷ files) [] others a b = absurd a
contents_one shelf (file ∷ files) (u ∷ us) [] a b = absurd b
contents_one shelf (file ∷ files) (u ∷ us) (v ∷ vs) a b =
    let first : accepted u ≡ accepted v = verdict_one shelf file (accepted u) (accepted v) a.0 b.0 in
    let rest : us ≡ vs = contents_one shelf files us vs a.1 b.1 in
    let same : u ≡ v = cc in cc

-- of files that are all accepted none is objected to
read_apart : (shelf : Shelf) (before behind : List File) (file : File) (contents : List Content) (verdict : Verdict) → AreRead (Some shelf) (before ++ file ∷ behind) contents → IsNotAccepted verdict → HasVerdict (Some shelf) file verdict → ⊥
read_apart shelf [] behind file [] verdict a objects has = a
read_apart shelf [] behind file (u ∷ us) verdict a objects has = accepted_apart shelf file u verdict a.0 has objects
read_apart shelf (other ∷ before) behind file [] verdict a objects has = a
read_apart shelf (other ∷ before) behind file (u ∷ us) verdict a objects has = read_apart shelf before behind file us verdict a.1 objects has

stops_apart : (shelf : Shelf) (files : List File) (contents : List Content) (file : File) (verdict : Verdict) → AreRead (Some shelf) files contents → StopsAt (Some shelf) files file verdict → ⊥
stops_apart shelf files contents file verdict read stops =
    read_apart shelf stops.reached.before stops.reached.behind file contents verdict (subst (λ fs. AreRead (Some shelf) fs contents) stops.reached.files_are read) stops.not_accepted stops.verdict_is

-- the first that is objected to is one
first_one : (shelf : Shelf) (before behind others rest : List File) (file other : File) (contents vs : List Content) (verdict thing : Verdict) → before ++ file ∷ behind ≡ others ++ other ∷ rest
    → AreRead (Some shelf) before contents → AreRead (Some shelf) others vs → IsNotAccepted verdict → IsNotAccepted thing → HasVerdict (Some shelf) file verdict → HasVerdict (Some shelf) other thing → file ≡ other
first_one shelf [] behind [] rest file other us vs verdict thing e a b o p has had = cc
first_one shelf [] behind (f ∷ others) rest file other us [] verdict thing e a b o p has had = absurd b
first_one shelf [] behind (f ∷ others) rest file other us (v ∷ vs) verdict thing e a b o p has had =
    let same : f ≡ file = cc in absurd (accepted_apart shelf file v verdict (subst (λ g. HasVerdict (Some shelf) g (accepted v)) same b.0) has o)
first_one shelf (f ∷ before) behind [] rest file other [] vs verdict thing e a b o p has had = absurd a
first_one shelf (f ∷ before) behind [] rest file other (u ∷ us) vs verdict thing e a b o p has had =
    let same : f ≡ other = cc in absurd (accepted_apart shelf other u thing (subst (λ g. HasVerdict (Some shelf) g (accepted u)) same a.0) had p)
first_one shelf (f ∷ before) behind (g ∷ others) rest file other [] vs verdict thing e a b o p has had = absurd a
first_one shelf (f ∷ before) behind (g ∷ others) rest file other (u ∷ us) [] verdict thing e a b o p has had = absurd b
first_one shelf (f ∷ before) behind (g ∷ others) rest file other (u ∷ us) (v ∷ vs) verdict thing e a b o p has had =
    let more : before ++ file ∷ behind ≡ others ++ other ∷ rest = cc in
    first_one shelf before behind others rest file other us vs verdict thing more a.1 b.1 o p has had

pub stops_one : (shelf : Shelf) (files : List File) (file other : File) (verdict thing : Verdict) → StopsAt (Some shelf) files file verdict → StopsAt (Some shelf) files other thing → (file ≡ other) × (verdict ≡ thing)
stops_one shelf files file other verdict thing a b =
    let same : file ≡ other =
    first_one shelf a.reached.before a.reached.behind b.reached.before b.reached.behind file other a.reached.contents b.reached.contents verdict thing (sym a.reached.files_are ∙ b.reached.files_are) a.reached.are_read b.reached.are_read a.not_accepted b.not_accepted a.verdict_is b.verdict_is in
    (same, verdict_one shelf other verdict thing (subst (λ f. HasVerdict (Some shelf) f verdict) same a.verdict_is) b.verdict_is)

-- one more file in front of those before one that is reached
reached_behind : (told : Option Shelf) (files : List File) (first file : File) (content : Content) → HasVerdict told first (accepted content) → IsReached told files file → IsReached told (first ∷ files) file
reached_behind told files first file content has r = record {
  before = first ∷ r.before;
  behind = r.behind;
  contents = content ∷ r.contents;
  files_are = ap (λ fs. first ∷ fs) r.files_are;
  are_read = (has, r.are_read);
}

-- the first file is reached
pub reached_first : (told : Option Shelf) (file : File) (files : List File) → IsReached told (file ∷ files) file
reached_first told file files = record { before = []; behind = files; contents = []; files_are = refl; are_read = tt }

-- all files are accepted, or one is the first that is not
judged : (shelf : Shelf) (files : List File) → ((contents : List Content) × AreRead (Some shelf) files contents) ⊎ ((file : File) × (verdict : Verdict) × StopsAt (Some shelf) files file verdict)
judged shelf [] = inl ([], tt)
judged shelf (file ∷ files) = by_first (verdict_has shelf file).0 (verdict_has shelf file).1 (judged shelf files)
  where
    stop : (verdict : Verdict) → IsNotAccepted verdict → HasVerdict (Some shelf) file verdict → (f : File) × (v : Verdict) × StopsAt (Some shelf) (file ∷ files) f v
    stop verdict objects has = (file, verdict, record { reached = reached_first (Some shelf) file files; not_accepted = objects; verdict_is = has })

    by_first : (verdict : Verdict) → HasVerdict (Some shelf) file verdict → ((contents : List Content) × AreRead (Some shelf) files contents) ⊎ ((f : File) × (v : Verdict) × StopsAt (Some shelf) files f v)
        → ((contents : List Content) × AreRead (Some shelf) (file ∷ files) contents) ⊎ ((f : File) × (v : Verdict) × StopsAt (Some shelf) (file ∷ files) f v)
    by_first (accepted content) has (inl read) = inl (content ∷ read.0, (has, read.1))
    by_first (accepted content) has (inr stops) =
        inr (stops.0, stops.1, record { reached = reached_behind (Some shelf) files file stops.0 content has stops.2.reached; not_accepted = stops.2.not_accepted; verdict_is = stops.2.verdict_is })
    by_first (refused fault) has rest = inr (stop (refused fault) tt has)
    by_first too_large has rest = inr (stop too_large tt has)
    by_first missing has rest = inr (stop missing tt has)

-- what files stand for is valid
read_valid : (shelf : Shelf) (files : List File) (contents : List Content) → AreRead (Some shelf) files contents → Each IsValidUpdate (updates_in contents)
read_valid shelf [] [] a = tt
read_valid shelf [] (c ∷ cs) a = absurd a
read_valid shelf (file ∷ files) [] a = absurd a
read_valid shelf (file ∷ files) (c ∷ cs) a = each_append IsValidUpdate (updates_of c) (updates_in cs) (stands_valid file.kind a.0.0 c a.0.2.1) (read_valid shelf files cs a.1)

-- ---- lemmas for callers

-- files stand for one thing
pub stand_one : (shelf : Shelf) (files : List File) (inputs others : Inputs) → StandFor (Some shelf) files inputs → StandFor (Some shelf) files others → inputs ≡ others
stand_one shelf files inputs others a b = a.inputs_are ∙ ap (inputs_in files) (contents_one shelf files a.contents b.contents a.are_read b.are_read) ∙ sym b.inputs_are

-- and for valid updates
pub stand_valid : (shelf : Shelf) (files : List File) (inputs : Inputs) → StandFor (Some shelf) files inputs → Each IsValidUpdate inputs.updates
stand_valid shelf files inputs a = subst (λ (i : Inputs). Each IsValidUpdate i.updates) (sym a.inputs_are) (read_valid shelf files a.contents a.are_read)

-- files that stand for something have none that is not accepted
pub stand_apart : (shelf : Shelf) (files : List File) (inputs : Inputs) (file : File) (verdict : Verdict) → StandFor (Some shelf) files inputs → StopsAt (Some shelf) files file verdict → ⊥
stand_apart shelf files inputs file verdict a stops = stops_apart shelf files a.contents file verdict a.are_read stops

-- all files stand for something, or one is the first that is not accepted
stand_or_stop : (shelf : Shelf) (files : List File) → ((inputs : Inputs) × StandFor (Some shelf) files inputs) ⊎ ((file : File) × (verdict : Verdict) × StopsAt (Some shelf) files file verdict)
stand_or_stop shelf files = elim (judged shelf files) [
  | inl read ↦ inl (inputs_in files read.0, record { contents = read.0; are_read = read.1; inputs_are = refl })
  | inr stops ↦ inr stops
]

-- files are judged
pub files_judged : FilesAreJudged
files_judged = record {
  file = verdict_has;
  one = verdict_one;
  files = stand_or_stop;
  inputs = stand_one;
  valid = stand_valid;
  first = stops_one;
  apart = stand_apart;
}
