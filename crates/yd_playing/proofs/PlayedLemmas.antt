-- Lines that are played one after another, and the first that is refused.
use Rattle.std.proofs.Common.{◌≡◌, List, [], ◌∷◌, ◌++◌, Result, Ok, Err, IfErr, IsErrAnd, inl, inr, refl, sym, ap, ◌∙◌, subst, append_assoc}
use Rattle.std.proofs.lemmas.List.{append-nil}
use Rattle.yd_ids.specs.declared.id.Client.{Client}
use Rattle.yd_ops.specs.Value.{UpdateValue}
use Rattle.yd_ops.specs.Received.{Received}
use Rattle.yd_meaning.specs.Document.{Document}
use Rattle.yd_meaning.specs.Replica.{IsReplicaDocument}
use Rattle.yd_script.specs.Lines.{Numbered}
use Rattle.yd_playing.specs.Desk.{Desk, Played, first_desk}
use Rattle.yd_playing.specs.Ended.{MayEnd, text_ends}
use Rattle.yd_playing.specs.Played.{Stop, SoFar, HasPlayed, LinesMayEnd, behind_updates}
use Rattle.yd_playing.specs.Stopped.{LeavesPlayed, StopsFor, IsStop, IsLeft}
use Rattle.yd_playing.specs.declared.fault.PlayFault.{PlayFault}
use Rattle.yd_playing.specs.declared.fault.PlayFault.TheVariants.{NoMemory, Refused}

-- ---- lines behind others

behind_none : (ends : Result Played Stop) → ends ≡ behind_updates [] ends
behind_none (Ok played) = refl
behind_none (Err stop) = refl

behind_both : (us vs : List UpdateValue) (ends : Result Played Stop) → behind_updates us (behind_updates vs ends) ≡ behind_updates (us ++ vs) ends
behind_both us vs (Ok played) = ap (λ ws. Ok (record { updates = ws; desk = played.desk })) (sym (append_assoc us vs played.updates))
behind_both us vs (Err stop) = refl

module _ (client : Client) where
  -- lines behind others that were played
  lines_append : (front behind : List Numbered) (desk after : Desk) (us : List UpdateValue) (ends : Result Played Stop) →
      LinesMayEnd client desk front (Ok (record { updates = us; desk = after })) → LinesMayEnd client after behind ends →
      LinesMayEnd client desk (front ++ behind) (behind_updates us ends)
  lines_append [] behind desk after us ends e b =
      let is : ◌≡◌ {A = Played} (record { updates = us; desk = after }) (record { updates = []; desk = desk }) = cc in
      subst (λ (p : Played). LinesMayEnd client p.desk behind ends → LinesMayEnd client desk behind (behind_updates p.updates ends)) (sym is)
      (subst (λ (f : Result Played Stop). LinesMayEnd client desk behind f) (behind_none ends)) b
  lines_append (line ∷ front) behind desk after us ends (inl (cause, first, e)) b = absurd cc
  lines_append (line ∷ front) behind desk after us ends (inr (first, Err stop, plays, more, e)) b = absurd cc
  lines_append (line ∷ front) behind desk after us ends (inr (first, Ok rest, plays, more, e)) b =
      let is : ◌≡◌ {A = Played} (record { updates = us; desk = after }) (record { updates = first.updates ++ rest.updates; desk = rest.desk }) = cc in
      inr (
        first,
        behind_updates rest.updates ends,
        plays,
        lines_append front behind first.desk rest.desk rest.updates ends more (subst (λ (p : Played). LinesMayEnd client p.desk behind ends) is b),
        ap (λ (p : Played). behind_updates p.updates ends) is ∙ sym (behind_both first.updates rest.updates ends),
      )

-- ---- lemmas for callers

-- at first none was played
pub none_played : (client : Client) (r : Received) (lines : List Numbered) → SoFar client r (first_desk r) lines lines []
none_played client r lines = record { before = []; lines_are = refl; are_played = refl }

-- a line more
pub one_more : (client : Client) (r : Received) (desk next : Desk) (lines behind left : List Numbered) (line : Numbered) (us vs : List UpdateValue) →
    SoFar client r desk lines left us → left ≡ line ∷ behind → MayEnd client desk line.text (Ok (record { updates = vs; desk = next })) → SoFar client r next lines behind (us ++ vs)
one_more client r desk next lines behind left line us vs so_far is ends = record {
  before = so_far.before ++ line ∷ [];
  lines_are = so_far.lines_are ∙ ap (λ ls. so_far.before ++ ls) is ∙ sym (append_assoc so_far.before (line ∷ []) behind);
  are_played = lines_append client so_far.before (line ∷ []) (first_desk r) desk us (Ok (record { updates = vs; desk = next })) so_far.are_played
      (inr (record { updates = vs; desk = next }, Ok (record { updates = []; desk = next }), ends, refl, ap (λ ws. Ok (record { updates = ws; desk = next })) (sym (append-nil vs))));
}

-- at the end all were
pub at_end : (client : Client) (r : Received) (desk : Desk) (lines left : List Numbered) (us : List UpdateValue) → SoFar client r desk lines left us → left ≡ [] →
    LinesMayEnd client (first_desk r) lines (Ok (record { updates = us; desk = desk }))
at_end client r desk lines left us so_far none = subst (λ (ls : List Numbered). LinesMayEnd client (first_desk r) ls (Ok (record { updates = us; desk = desk })))
    (sym (so_far.lines_are ∙ ap (λ ls. so_far.before ++ ls) none ∙ append-nil so_far.before)) so_far.are_played

-- how a line ends over a document of a replica
pub line_may_end : (client : Client) (desk : Desk) (line : Numbered) (document : Document) (fault : PlayFault) → IsReplicaDocument document desk.received →
    IsStop line.number (text_ends client document desk line.text) fault → (lines behind : List Numbered) (r : Received) (us : List UpdateValue) →
    SoFar client r desk lines (line ∷ behind) us → StopsFor client r lines fault
line_may_end client desk line document NoMemory own is lines behind r us so_far = tt
line_may_end client desk line document (Refused number cause) own is lines behind r us so_far =
    subst (λ (ls : List Numbered). LinesMayEnd client (first_desk r) ls (Err (record { number = number; cause = cause }))) (sym so_far.lines_are)
    (lines_append client so_far.before (line ∷ behind) (first_desk r) desk us (Err (record { number = number; cause = cause })) so_far.are_played
    (inl (cause, (document, own, is.1), ap (λ n. Err (record { number = n; cause = cause })) is.0)))

-- the first that is refused
pub stops_here : (client : Client) (r : Received) (desk : Desk) (lines behind left : List Numbered) (line : Numbered) (us : List UpdateValue) (document : Document) (fault : PlayFault) →
    SoFar client r desk lines left us → left ≡ line ∷ behind → IsReplicaDocument document desk.received → IsStop line.number (text_ends client document desk line.text) fault →
    StopsFor client r lines fault
stops_here client r desk lines behind left line us document fault so_far next own is =
    line_may_end client desk line document fault own is lines behind r us (subst (λ (ls : List Numbered). SoFar client r desk lines ls us) next so_far)

-- what was played when a line stopped
pub played_here : (client : Client) (r : Received) (desk : Desk) (lines behind left : List Numbered) (line : Numbered) (us : List UpdateValue) (now : Received) (document : Document) →
    SoFar client r desk lines left us → left ≡ line ∷ behind → IsReplicaDocument document desk.received → IsLeft desk.received now (text_ends client document desk line.text) →
    HasPlayed client r now lines
played_here client r desk lines behind left line us now document so_far next own (inl same) = (desk, left, us, so_far, same)
played_here client r desk lines behind left line us now document so_far next own (inr (played, ends, is)) =
    (played.desk, behind, us ++ played.updates, one_more client r desk played.desk lines behind left line us played.updates so_far next (document, own, ends), is)

-- what a line leaves that stopped
pub left_here : (client : Client) (r : Received) (desk : Desk) (lines behind left : List Numbered) (line : Numbered) (us : List UpdateValue) (now : Received) (document : Document)
    (fault : PlayFault) → SoFar client r desk lines left us → left ≡ line ∷ behind → IsReplicaDocument document desk.received →
    IsStop line.number (text_ends client document desk line.text) fault → IsLeft desk.received now (text_ends client document desk line.text) → LeavesPlayed client r now lines fault
left_here client r desk lines behind left line us now document NoMemory so_far next own stop is =
    played_here client r desk lines behind left line us now document so_far next own is
left_here client r desk lines behind left line us now document (Refused number cause) so_far next own (same_number, refused) (inl same) = record {
  desk = desk;
  line = line;
  behind = behind;
  updates = us;
  played_before = subst (λ (ls : List Numbered). SoFar client r desk lines ls us) next so_far;
  received_is = same;
  number_is = sym same_number;
  is_refused = (document, own, refused);
}
left_here client r desk lines behind left line us now document (Refused number cause) so_far next own (same_number, refused) (inr (played, ends, is)) = absurd cc

-- what holds of a fault that is passed on
pub passed_on : {X : Type 0} (P : PlayFault → Type 0) (r : Result X PlayFault) (fault : PlayFault) → IsErrAnd r (λ f. f ≡ fault) → P fault → IfErr r P
passed_on P (Ok x) fault is p = tt
passed_on P (Err e) fault is p = subst P (sym is) p
