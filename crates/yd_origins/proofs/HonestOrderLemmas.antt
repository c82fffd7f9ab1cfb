-- On an honest set the order of each list is strict, and each operation stands between its origins.
use Rattle.std.proofs.Common.{◌≡◌, ◌≢◌, false, ◌⊎◌, Some, refl, sym, ◌∙◌}
use Rattle.yd_words.specs.Member.{IsIn}
use Rattle.yd_ids.specs.declared.id.Id.{Id}
use Rattle.yd_origins.specs.Table.{OriginTable, ids_of, left_of, right_of, IsTable}
use Rattle.yd_origins.specs.Before.{is_before, IsBefore}
use Rattle.yd_origins.specs.Operations.{ListNames, OperationSet, list_of_operation, table_of_all, table_of_list, IsHonest}
use Rattle.yd_origins.proofs.TableLemmas.{total}
use Rattle.yd_origins.proofs.FittingLemmas.{one_way, through, left_before, right_behind}
use Rattle.yd_origins.proofs.ListLemmas.{list_of_left, in_all, all_is_table}
use Rattle.yd_origins.proofs.ListTableLemmas.{in_own, own_is_table, own_order, own_left}
use Rattle.yd_origins.proofs.HonestLemmas.{own_fits, right_is, right_list}

module _ {Name : Type 0} {names : ListNames Name} (set : OperationSet names) (t : IsTable set.origins) where
  abbrev P : Id → Type 0
  P x = IsIn x (ids_of set.origins)

  abbrev list : Id → Name
  list = list_of_operation set

  abbrev all : OriginTable
  all = table_of_all set

  pub total_of_all : (a b : Id) → P a → P b → a ≢ b → IsBefore all a b ⊎ IsBefore all b a
  total_of_all a b p q ne = total all (all_is_table set t) a b (in_all set t a p) (in_all set t b q) ne

  module _ (honest : IsHonest set) where
    -- two operations of one list, in the table of that list and among all
    own_before : (a b name : Id) → P a → P b → list a ≡ list name → list b ≡ list name → is_before (table_of_list set (list name)) a b ≡ is_before all a b
    own_before a b name p q e g = own_order set t (list name) a b (in_own set t (list name) a p e) (in_own set t (list name) b q g)

    pub one_way_of_list : (a b : Id) → P a → P b → list a ≡ list b → IsBefore all a b → is_before all b a ≡ false
    one_way_of_list a b p q e less = sym (own_before b a b q p refl e)
        ∙ one_way (table_of_list set (list b)) (own_is_table set t (list b)) (own_fits set t honest (list b)) a b (in_own set t (list b) a p e)
        (in_own set t (list b) b q refl)
        (own_before a b b p q e refl ∙ less)

    pub through_of_list : (a b c : Id) → P a → P b → P c → list a ≡ list b → list b ≡ list c → IsBefore all a b → IsBefore all b c → IsBefore all a c
    through_of_list a b c p q r e g less more = sym (own_before a c c p r (e ∙ g) refl)
        ∙ through (table_of_list set (list c)) (own_is_table set t (list c)) (own_fits set t honest (list c)) a b c
        (in_own set t (list c) a p (e ∙ g)) (in_own set t (list c) b q g) (in_own set t (list c) c r refl)
        (own_before a b c p q (e ∙ g) g ∙ less) (own_before b c c q r g refl ∙ more)

    pub after_left_origin : (x y : Id) → P x → left_of set.origins x ≡ Some y → IsBefore all y x
    after_left_origin x y p e = sym (own_before y x x q p same refl)
        ∙ left_before (table_of_list set (list x)) (own_is_table set t (list x)) (own_fits set t honest (list x)) x y (in_own set t (list x) x p refl)
        (in_own set t (list x) y q same)
        (own_left set t (list x) x (in_own set t (list x) x p refl) ∙ e)
      where
        q : P y
        q = rw e at (t.has_left x p)

        same : list y ≡ list x
        same = list_of_left set t x y p e

    pub before_right_origin : (x y : Id) → P x → right_of set.origins x ≡ Some y → IsBefore all x y
    before_right_origin x y p e = sym (own_before x y x p q refl same)
        ∙ right_behind (table_of_list set (list x)) (own_is_table set t (list x)) (own_fits set t honest (list x)) x y (in_own set t (list x) x p refl)
        (in_own set t (list x) y q same)
        (right_is set t honest (list x) x (in_own set t (list x) x p refl) ∙ e)
      where
        q : P y
        q = rw e at (t.has_right x p)

        same : list y ≡ list x
        same = right_list set t honest x y p e
