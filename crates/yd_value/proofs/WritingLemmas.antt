-- Appending one piece after the other.
use Rattle.std.proofs.Common.{◌≡◌, ℕ, false, List, ◌++◌, codes, ap, ◌∙◌, append_assoc}
use Rattle.json.specs.Print.{escape_byte}
use Rattle.yd_any.specs.Tree.{AnyTree, AnyFields}
use Rattle.yd_value.specs.Texts.{Printing, enclosed, text_of, text_of_fields}
use Rattle.yd_value.specs.View.{element_tree}

-- of all this text the last part is left to be appended
pub record Leaves (old now : Printing) (all left : List ℕ) : Type 0 where
  pub before : now.before ≡ old.before
  pub split : now.text ++ left ≡ old.text ++ all

-- two pieces, one after the other
pub two_appended : (a b c first second : List ℕ) → b ≡ a ++ first → c ≡ b ++ second → c ≡ a ++ (first ++ second)
two_appended a b c first second p q = q ∙ ap (λ l. l ++ second) p ∙ append_assoc a first second

-- what stands in front of an element's children, the children and the name
pub text_of-element : (attributes : AnyFields) (children : AnyTree) (name : List ℕ) → text_of (element_tree attributes children name)
    ≡ (codes "{\"attributes\":{" ++ (text_of_fields false attributes ++ codes ",\"children\":")) ++ (text_of children ++ enclosed (codes ",\"name\":\"") name (codes "\"}"))
unfolding escape_byte
text_of-element attributes children name = simp append_assoc
