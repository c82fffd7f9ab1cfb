-- Lines end one way: all are played, or one is the first that is refused.
use Rattle.std.proofs.Common.{◌≡◌, ◌⊎◌, ℕ, List, [], ◌∷◌, Result, Ok, Err, inl, inr, refl, sym, ap, ◌∙◌, subst}
use Rattle.yd_ids.specs.declared.id.Client.{Client}
use Rattle.yd_ops.specs.Value.{UpdateValue}
use Rattle.yd_ops.specs.Received.{IsWritten, Received}
use Rattle.yd_meaning.specs.Held.{held_set}
use Rattle.yd_meaning.specs.Order.{AreHonest}
use Rattle.yd_meaning.specs.Document.{Document, document_of}
use Rattle.yd_meaning.proofs.ReplicaLemmas.{defined_is, documents_are_one}
use Rattle.yd_script.specs.Lines.{Numbered}
use Rattle.yd_playing.specs.Desk.{Desk, Played, first_desk}
use Rattle.yd_playing.specs.Ended.{MayEnd, text_ends}
use Rattle.yd_playing.specs.Law.{LinesEndOneWay}
use Rattle.yd_playing.specs.Played.{Stop, ArePlayed, LinesMayEnd, RulesAreKept, behind_updates}
use Rattle.yd_playing.specs.Stopped.{StopsAt}
use Rattle.yd_causes.specs.declared.cause.LineCause.{LineCause}
use Rattle.yd_playing.proofs.ReceivedLemmas.{line_received, more_written}

-- one result is one value
same_played : (p q : Played) → ◌≡◌ {A = Result Played Stop} (Ok p) (Ok q) → p ≡ q
same_played p q e = cc

same_stop : (s t : Stop) → ◌≡◌ {A = Result Played Stop} (Err s) (Err t) → s ≡ t
same_stop s t e = cc

not_both : (p : Played) (s : Stop) → ◌≡◌ {A = Result Played Stop} (Ok p) (Err s) → ⊥
not_both p s e = cc

same_first : (p q : Played) → ◌≡◌ {A = Result Played LineCause} (Ok p) (Ok q) → p ≡ q
same_first p q e = cc

same_cause : (a b : LineCause) → ◌≡◌ {A = Result Played LineCause} (Err a) (Err b) → a ≡ b
same_cause a b e = cc

-- ---- some end

-- over the document that what is received defines
lines_some : (client : Client) (lines : List Numbered) (desk : Desk) → IsWritten desk.received.operations → (ends : Result Played Stop) × LinesMayEnd client desk lines ends
lines_some client [] desk written = (Ok (record { updates = []; desk = desk }), refl)
lines_some client (line ∷ lines) desk written = go (text_ends client (document_of desk.received) desk line.text) refl (lines_some client lines)
  where
    go : (first : Result Played LineCause) → text_ends client (document_of desk.received) desk line.text ≡ first →
        ((next : Desk) → IsWritten next.received.operations → (ends : Result Played Stop) × LinesMayEnd client next lines ends) →
        (ends : Result Played Stop) × LinesMayEnd client desk (line ∷ lines) ends
    go (Err cause) e more = (Err (record { number = line.number; cause = cause }), inl (cause, (document_of desk.received, defined_is desk.received written, e), refl))
    go (Ok first) e more =
        let plays : MayEnd client desk line.text (Ok first) = (document_of desk.received, defined_is desk.received written, e) in
        let (rest, is) = more first.desk (subst (λ (r : Received). IsWritten r.operations) (sym (line_received client desk line.text first plays)) (more_written desk.received first.updates written)) in
        (behind_updates first.updates rest, inr (first, rest, plays, is, refl))

some_end : (client : Client) (r : Received) (lines : List Numbered) → IsWritten r.operations →
    ((us : List UpdateValue) × ArePlayed client r lines us) ⊎ ((number : ℕ) × (cause : LineCause) × StopsAt client r lines number cause)
some_end client r lines written = let (ends, is) = lines_some client lines (first_desk r) written in go ends is
  where
    go : (ends : Result Played Stop) → LinesMayEnd client (first_desk r) lines ends →
        ((us : List UpdateValue) × ArePlayed client r lines us) ⊎ ((number : ℕ) × (cause : LineCause) × StopsAt client r lines number cause)
    go (Ok played) is = inl (played.updates, (played.desk, is))
    go (Err stop) is = inr (stop.number, stop.cause, is)

-- ---- one end

-- a text ends one way
text_one : (client : Client) (desk : Desk) (text : List ℕ) (one other : Result Played LineCause) → AreHonest (held_set desk.received.operations) →
    MayEnd client desk text one → MayEnd client desk text other → one ≡ other
text_one client desk text one other honest (document, own, e) (another, also, f) =
    sym e ∙ ap (λ (d : Document). text_ends client d desk text) (documents_are_one desk.received honest document another own also) ∙ f

lines_one : (client : Client) (lines : List Numbered) (desk : Desk) (one other : Result Played Stop) → RulesAreKept client desk lines →
    LinesMayEnd client desk lines one → LinesMayEnd client desk lines other → one ≡ other
lines_one client [] desk one other kept a b = a ∙ sym b
lines_one client (line ∷ lines) desk one other kept (inl (cause, first, e)) (inl (because, also, f)) =
    e ∙ ap (λ c. Err (record { number = line.number; cause = c })) (same_cause cause because (text_one client desk line.text (Err cause) (Err because) kept.0 first also)) ∙ sym f
lines_one client (line ∷ lines) desk one other kept (inl (cause, first, e)) (inr (played, rest, plays, more, f)) =
    let same = text_one client desk line.text (Err cause) (Ok played) kept.0 first plays in absurd cc
lines_one client (line ∷ lines) desk one other kept (inr (played, rest, plays, more, e)) (inl (cause, first, f)) =
    let same = text_one client desk line.text (Err cause) (Ok played) kept.0 first plays in absurd cc
lines_one client (line ∷ lines) desk one other kept (inr (played, rest, plays, more, e)) (inr (too, others, also, on, f)) =
    let same = same_first played too (text_one client desk line.text (Ok played) (Ok too) kept.0 plays also) in
    e ∙ ap (λ (p : Played). behind_updates p.updates rest) same
    ∙ ap (behind_updates too.updates) (lines_one client lines too.desk rest others (kept.1 too also) (subst (λ (p : Played). LinesMayEnd client p.desk lines rest) same more) on)
    ∙ sym f

-- ---- lemmas for callers

pub lines_end : LinesEndOneWay
lines_end = record {
  some = some_end;
  one_row = λ client r lines kept us others a b. ap (λ (p : Played). p.updates) (same_played _ _ (lines_one client lines (first_desk r) _ _ kept a.1 b.1));
  apart = λ client r lines kept us number cause a s. not_both _ _ (lines_one client lines (first_desk r) _ _ kept a.1 s);
  one_stop = λ client r lines kept number other cause because a b. let same = same_stop _ _ (lines_one client lines (first_desk r) _ _ kept a b) in
      (ap (λ (s : Stop). s.number) same, ap (λ (s : Stop). s.cause) same);
}
