-- Sets of quantities, and the quantity of a set that is reported.
use Rattle.std.specs.Prelude.{◌≡◌, Bool, ℕ, ◌≤◌, ◌<◌, ℤ, nat_abs, ◌≤ℤ◌}
use Rattle.ground.specs.Signs.{is_negative}

-- the numbers of one sign whose size is in P: zero is among those that are not negative
pub record OfSign (negative : Bool) (P : ℕ → Type 0) (x : ℤ) : Type 0 where
  pub sign : negative ≡ is_negative x
  pub size : P (nat_abs x)

-- x is the least of P
pub record LeastOf (P : ℕ → Type 0) (x : ℕ) : Type 0 where
  pub member : P x
  pub least : (y : ℕ) → P y → x ≤ y

-- x is the greatest of P
pub record GreatestOf (P : ℕ → Type 0) (x : ℕ) : Type 0 where
  pub member : P x
  pub greatest : (y : ℕ) → P y → y ≤ x

-- x has the least absolute value in P
pub record NearestOf (P : ℤ → Type 0) (x : ℤ) : Type 0 where
  pub member : P x
  pub nearest : (y : ℤ) → P y → nat_abs x ≤ nat_abs y

-- x is the lowest of P
pub record LowestOf (P : ℤ → Type 0) (x : ℤ) : Type 0 where
  pub member : P x
  pub lowest : (y : ℤ) → P y → x ≤ℤ y

-- K is the least of the codes 0 to last that covers R
pub record LeastCode (covers : ℕ → ℕ → Type 0) (last R K : ℕ) : Type 0 where
  pub code : K ≤ last
  pub covered : covers K R
  pub least : (J : ℕ) → J < K → covers J R → ⊥

-- R is the greatest that K covers, one of the codes 0 to last
pub record GreatestCovered (covers : ℕ → ℕ → Type 0) (last K R : ℕ) : Type 0 where
  pub code : K ≤ last
  pub covered : covers K R
  pub greatest : (S : ℕ) → covers K S → S ≤ R

-- x is not one of the numbers from `first` to `last`
pub data Outside (first last x : ℕ) : Type 0 where
  below : x < first → Outside first last x
  above : last < x → Outside first last x
