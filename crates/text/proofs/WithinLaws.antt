-- Laws of text that takes at most so many octets.
use Rattle.std.proofs.Common.{ℕ, ◌+◌, ◌^◌, ◌<◌, ◌≤◌, List, [], ◌∷◌, ◌++◌, length, ℤ, arith, w64, SFits}
use Rattle.text.specs.Text.{decimal, signed_decimal, Puts, PutsWithin}
use Rattle.text.proofs.OutputLaws.{then, decimal-most, signed-most}

module _ {x y : List ℕ} {i j : ℕ} where
  pub within : {t : List ℕ} {most : ℕ} → length t ≤ most → Puts x i t y j → PutsWithin most x i t y j
  within h p = record { puts = p; within = omega (arith, p.place) }

  pub octet-within : {b : ℕ} → Puts x i (b ∷ []) y j → PutsWithin 1 x i (b ∷ []) y j
  octet-within p = within (omega arith) p

  pub decimal-within : {n : ℕ} → n < 2 ^ 64 → Puts x i (decimal n) y j → PutsWithin 20 x i (decimal n) y j
  decimal-within h p = within (decimal-most h) p

  pub signed-within : {z : ℤ} → SFits w64 z → Puts x i (signed_decimal z) y j → PutsWithin 20 x i (signed_decimal z) y j
  signed-within {z} f p = within (signed-most z f) p

  -- put, and then put after it
  pub after : {z t u : List ℕ} {k m n : ℕ} → PutsWithin m x i t y j → PutsWithin n y j u z k → PutsWithin (m + n) x i (t ++ u) z k
  after p q = record { puts = then p.puts q.puts; within = omega (arith, p.within, q.within) }

  -- more octets would be allowed
  pub fewer : {t : List ℕ} {m n : ℕ} → m ≤ n → PutsWithin m x i t y j → PutsWithin n x i t y j
  fewer h p = record { puts = p.puts; within = omega (arith, p.within) }
