-- Sums of signed numbers over a list.
use Rattle.std.specs.Prelude.{List, ℤ, pos, ◌+ℤ◌, fold}

-- the sum of what f gives for each element
abbrev pub signed_sum : {X : Type 0} → (X → ℤ) → List X → ℤ
signed_sum f xs = fold (λ a x. a +ℤ f x) (pos 0) xs

-- the sum of a list of signed numbers
abbrev pub signed_total : List ℤ → ℤ
signed_total xs = signed_sum (λ x. x) xs
