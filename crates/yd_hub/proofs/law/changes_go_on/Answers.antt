-- The sends are those to the other sessions.
use Rattle.std.proofs.Common.{◌≡◌, ◌≢◌, ◌↔◌, ℕ, true, ◌||◌, cond, List, [], ◌∷◌, inl, inr, refl, sym, ap, ◌∙◌, subst, true≢false, nat_eq}
use Rattle.std.proofs.lemmas.Bool.{eq-eqb, or_right}
use Rattle.yd_words.specs.Member.{IsIn}
use Rattle.yd_ops.specs.Value.{UpdateValue}
use Rattle.yd_sync.specs.Message.{MessageValue, change}
use Rattle.yd_sync.proofs.PresenceLemmas.{tested, same_number}
use Rattle.yd_hub.specs.Sessions.{is_open, without}
use Rattle.yd_hub.specs.Actions.{ActionValue, send, to_each}
use Rattle.yd_hub.specs.Answers.{Answers}
use Rattle.yd_hub.specs.Hub.{HubState}
use Rattle.yd_hub.proofs.OpenLemmas.{without_itself, without_other}
use Rattle.yd_hub.proofs.OrderLemmas.{others_within}
use Rattle.yd_hub.proofs.law.changes_go_on.Goals as goal

in_each : (m : MessageValue) (sessions : List ℕ) (action : ActionValue) → IsIn action (to_each m sessions) → (to : ℕ) × (is_open sessions to ≡ true) × (action ≡ send to m)
in_each m [] action i = absurd i
in_each m (s ∷ sessions) action (inl e) = (s, ap (λ t. t || is_open sessions s) (eq-eqb s s refl), e)
in_each m (s ∷ sessions) action (inr i) = let (to, there, e) = in_each m sessions action i in (to, or_right (nat_eq s to) (is_open sessions to) there, e)

each_in : (m : MessageValue) (sessions : List ℕ) (to : ℕ) → is_open sessions to ≡ true → IsIn (send to m) (to_each m sessions)
each_in m [] to e = absurd (true≢false (sym e))
each_in m (s ∷ sessions) to e = elim (tested (nat_eq s to)) [
  | inl same ↦ inl (ap (λ t. send t m) (sym (same_number s to same)))
  | inr other ↦ inr (each_in m sessions to (sym (ap (λ t. t || is_open sessions to) other) ∙ e))
]

-- what it sends, and to whom
abbrev Goes : Answers → HubState → ℕ → UpdateValue → ActionValue → Type 0
Goes answers hub s update action = (answers.is_news update ≡ true) × ((to : ℕ) × (is_open hub.sessions to ≡ true) × (to ≢ s) × (action ≡ send to (change update)))

goes : (answers : Answers) (hub : HubState) (s : ℕ) (update : UpdateValue) (action : ActionValue) →
    IsIn action (cond (answers.is_news update) (to_each (change update) (without s hub.sessions)) []) ↔ Goes answers hub s update action
goes answers hub s update action = (there, back)
  where
    there : IsIn action (cond (answers.is_news update) (to_each (change update) (without s hub.sessions)) []) → Goes answers hub s update action
    there i = elim (tested (answers.is_news update)) [
      | inr none ↦ absurd (subst (λ t. IsIn action (cond t (to_each (change update) (without s hub.sessions)) [])) none i)
      | inl news ↦ let (to, at, e) = in_each (change update) (without s hub.sessions) action (subst (λ t. IsIn action (cond t (to_each (change update) (without s hub.sessions)) [])) news i) in
          (news, (to, others_within s hub.sessions to at, λ same. true≢false (sym at ∙ ap (λ u. is_open (without s hub.sessions) u) same ∙ without_itself s hub.sessions), e))
    ]

    back : Goes answers hub s update action → IsIn action (cond (answers.is_news update) (to_each (change update) (without s hub.sessions)) [])
    back (news, (to, there, other, e)) = subst (λ t. IsIn action (cond t (to_each (change update) (without s hub.sessions)) [])) (sym news)
        (subst (λ a. IsIn a (to_each (change update) (without s hub.sessions))) (sym e)
        (each_in (change update) (without s hub.sessions) to (without_other s to hub.sessions (λ same. other (sym same)) ∙ there)))

pub returns : goal.returns
returns c = λ read answers hub now s bytes update there brings action. elim brings [
  | inl e ↦ rw (there, e) (goes answers hub s.0 update action)
  | inr e ↦ rw (there, e) (goes answers hub s.0 update action)
]
