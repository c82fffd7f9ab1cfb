-- The steps of the walk, and what is known where a part of a table is scanned for a new row.
use Rattle.std.proofs.Common.{◌≡◌, ◌≢◌, ℕ, ◌<◌, Bool, List, [], ◌∷◌, ◌++◌, Some, Option, refl}
use Rattle.std.specs.Prelude.{IfSome}
use Rattle.yd_words.specs.Member.{IsIn}
use Rattle.yd_ids.specs.declared.id.Id.{Id}
use Rattle.yd_origins.specs.Before.{by_lines}
use Rattle.yd_origins.specs.Scan.{stops, moves, stays, verdict, walk}
use Rattle.yd_origins.proofs.MemberLemmas.{place}
use Rattle.yd_origins.proofs.LineLemmas.{Line}

-- the three steps of the walk
pub walk-stops : (left right : Id → Option Id) (o : Id) (passed conflicting xs : List Id) (x : Id) → verdict left right o passed conflicting x ≡ stops →
    walk left right o passed conflicting (x ∷ xs) ≡ (passed, conflicting ++ x ∷ xs)
walk-stops left right o passed conflicting xs x e = rw (e, walk) refl

pub walk-moves : (left right : Id → Option Id) (o : Id) (passed conflicting xs : List Id) (x : Id) → verdict left right o passed conflicting x ≡ moves →
    walk left right o passed conflicting (x ∷ xs) ≡ walk left right o (passed ++ conflicting ++ x ∷ []) [] xs
walk-moves left right o passed conflicting xs x e = rw (e, walk) refl

pub walk-stays : (left right : Id → Option Id) (o : Id) (passed conflicting xs : List Id) (x : Id) → verdict left right o passed conflicting x ≡ stays →
    walk left right o passed conflicting (x ∷ xs) ≡ walk left right o passed (conflicting ++ x ∷ []) xs
walk-stays left right o passed conflicting xs x e = rw (e, walk) refl

-- what is known of the scanned rows, of a row o outside them, and of a line that has both
pub record Setting (left right : Id → Option Id) (before : Id → Id → Bool) (height : Id → ℕ) (P : Id → Type 0) (l : Line before P) (rows : List Id)
    (o : Id) : Type 0 where
  pub six : (x y : Id) → P x → P y → x ≢ y → before x y ≡ by_lines left right before x y
  pub in_left : (x : Id) → P x → IfSome (left x) P
  pub in_right : (x : Id) → P x → IfSome (right x) P
  pub after_left : (x : Id) → P x → place l.pos 0 (left x) < l.pos x
  pub before_right : (x : Id) → P x → l.pos x < place l.pos l.end (right x)
  pub low_right : (x : Id) → P x → IfSome (right x) (λ y. height y < height x)
  pub low_left : (x : Id) → P x → IfSome (left x) (λ y. height y < height x)
  pub member : (x : Id) → IsIn x rows → P x
  pub o_in : P o
  pub o_new : IsIn o rows → ⊥
  pub rows_left : (x : Id) → IsIn x rows → IfSome (left x) (λ y. IsIn y rows)
  pub rows_right : (x : Id) → IsIn x rows → IfSome (right x) (λ y. IsIn y rows)
  pub o_right : IfSome (right o) (λ y. IsIn y rows)
  pub gap : (x t y : Id) → IsIn x rows → right x ≡ Some t → left t ≡ Some y → place l.pos 0 (left x) < l.pos y → l.pos y < l.pos t → ⊥
  pub alone : (x : Id) → IsIn x rows → place l.pos 0 (left o) < l.pos x → l.pos x < place l.pos l.end (right o) → x.client.0 ≢ o.client.0
