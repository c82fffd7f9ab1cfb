-- What may be absent: what is true of it, what a test says of it, and when two are one.
use Rattle.std.proofs.Common.{◌≡◌, Bool, Option, Some, None, refl}
use Rattle.std.specs.Prelude.{IfSome}
use Rattle.yd_words.specs.Test.{is_some_and}

pub some_is : {X : Type 0} (x y : X) → ◌≡◌ {A = Option X} (Some x) (Some y) → x ≡ y
some_is x y e = cc

pub if_some_map : {X : Type 0} (P Q : X → Type 0) (z : Option X) → ((y : X) → P y → Q y) → IfSome z P → IfSome z Q
if_some_map P Q None f p = tt
if_some_map P Q (Some y) f p = f y p

pub if_some_both : {X : Type 0} (P Q R : X → Type 0) (z : Option X) → ((y : X) → P y → Q y → R y) → IfSome z P → IfSome z Q → IfSome z R
if_some_both P Q R None f p q = tt
if_some_both P Q R (Some y) f p q = f y p q

-- what is true of all that is there is true of what may be
pub if_some_each : {X : Type 0} (P : X → Type 0) (z : Option X) → ((y : X) → z ≡ Some y → P y) → IfSome z P
if_some_each P None f = tt
if_some_each P (Some y) f = f y refl

-- two tests that agree on what is there answer alike
pub test_alike : {X : Type 0} (f g : X → Bool) (z : Option X) → IfSome z (λ y. f y ≡ g y) → is_some_and f z ≡ is_some_and g z
test_alike f g None same = refl
test_alike f g (Some y) same = same
