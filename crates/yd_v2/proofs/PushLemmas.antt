-- Columns that are pushed one after another make a file.
use Rattle.std.proofs.Common.{◌≡◌, ◌∙◌, ◌++◌, ℕ, List, ap, append_assoc}
use Rattle.yd_num.specs.Writing.{shortest_blob}
use Rattle.yd_v2.specs.Writing.{PushesColumn, PushesThree}

-- three columns, one after another
pub three_pushed : {old mid last new first second third : List ℕ} → PushesColumn old mid first → PushesColumn mid last second → PushesColumn last new third → PushesThree old new first second third
three_pushed {old} {mid} {last} {new} {first} {second} {third} one two three = record {
  bytes = three.bytes ∙ ap (λ (bytes : List ℕ). bytes ++ shortest_blob third) (two.bytes ∙ ap (λ (bytes : List ℕ). bytes ++ shortest_blob second) one.bytes)
      ∙ ap (λ (bytes : List ℕ). bytes ++ shortest_blob third) (append_assoc old (shortest_blob first) (shortest_blob second))
      ∙ append_assoc old (shortest_blob first ++ shortest_blob second) (shortest_blob third)
      ∙ ap (λ (bytes : List ℕ). old ++ bytes) (append_assoc (shortest_blob first) (shortest_blob second) (shortest_blob third));
  first_fits = one.fits;
  second_fits = two.fits;
  third_fits = three.fits;
}

-- what was written behind the old bytes
pub record Behind (old more new : List ℕ) : Type 0 where
  pub is : new ≡ old ++ more

-- bytes, and then what was written behind them
pub then_more : {old mid more new : List ℕ} (bytes : List ℕ) → mid ≡ old ++ bytes → Behind mid more new → Behind old (bytes ++ more) new
then_more {old} {mid} {more} {new} bytes first later = record { is = later.is ∙ ap (λ (front : List ℕ). front ++ more) first ∙ append_assoc old bytes more }

-- three columns, and then what was written behind them
pub then_three : {old mid new first second third : List ℕ} (more : List ℕ) → PushesThree old mid first second third → Behind mid more new → Behind old (shortest_blob first ++ (shortest_blob second ++ (shortest_blob third ++ more))) new
then_three {old} {mid} {new} {first} {second} {third} more three later = record {
  is = later.is ∙ ap (λ (front : List ℕ). front ++ more) three.bytes
      ∙ append_assoc old (shortest_blob first ++ (shortest_blob second ++ shortest_blob third)) more
      ∙ ap (λ (bytes : List ℕ). old ++ bytes) (append_assoc (shortest_blob first) (shortest_blob second ++ shortest_blob third) more ∙ ap (λ (bytes : List ℕ). shortest_blob first ++ bytes) (append_assoc (shortest_blob second) (shortest_blob third) more));
}
