-- A number that is no type's is of no kind.
use Prim.Native.Nat.{ℕ, zero, suc}
use mathlib.Core.Path.{◌≡◌, refl}
use Rattle.layout.specs.declared.shape.Kind.TheVariants as shape
use Rattle.layout.specs.declared.velocity.VelocityKind.TheVariants as velocity
use Rattle.layout.specs.Shapes.{kind_of}
use Rattle.layout.specs.Velocities.{velocity_kind_of}

pub no_kind : (n : ℕ) → (n ≡ 0 → ⊥) → (n ≡ 1 → ⊥) → (n ≡ 3 → ⊥) → (n ≡ 5 → ⊥) → (n ≡ 8 → ⊥) → (n ≡ 9 → ⊥) → (n ≡ 10 → ⊥) → kind_of n ≡ shape.Nothing
no_kind zero a b c d e f g = absurd (a refl)
no_kind (suc zero) a b c d e f g = absurd (b refl)
no_kind (suc (suc zero)) a b c d e f g = refl
no_kind (suc (suc (suc zero))) a b c d e f g = absurd (c refl)
no_kind (suc (suc (suc (suc zero)))) a b c d e f g = refl
no_kind (suc (suc (suc (suc (suc zero))))) a b c d e f g = absurd (d refl)
no_kind (suc (suc (suc (suc (suc (suc zero)))))) a b c d e f g = refl
no_kind (suc (suc (suc (suc (suc (suc (suc zero))))))) a b c d e f g = refl
no_kind (suc (suc (suc (suc (suc (suc (suc (suc zero)))))))) a b c d e f g = absurd (e refl)
no_kind (suc (suc (suc (suc (suc (suc (suc (suc (suc zero))))))))) a b c d e f g = absurd (f refl)
no_kind (suc (suc (suc (suc (suc (suc (suc (suc (suc (suc zero)))))))))) a b c d e f g = absurd (g refl)
no_kind (suc (suc (suc (suc (suc (suc (suc (suc (suc (suc (suc n))))))))))) a b c d e f g = refl

pub no-velocity-kind : (n : ℕ) → (n ≡ 0 → ⊥) → (n ≡ 1 → ⊥) → (n ≡ 2 → ⊥) → (n ≡ 3 → ⊥) → velocity_kind_of n ≡ velocity.Nothing
no-velocity-kind zero a b c d = absurd (a refl)
no-velocity-kind (suc zero) a b c d = absurd (b refl)
no-velocity-kind (suc (suc zero)) a b c d = absurd (c refl)
no-velocity-kind (suc (suc (suc zero))) a b c d = absurd (d refl)
no-velocity-kind (suc (suc (suc (suc n)))) a b c d = refl
