-- A number above 8 or 16 bits is no code of the field, and is refused as one.
use mathlib.Core.Path.{refl}
use Prim.Native.Nat.{ℕ, ◌<◌}
use native.Mathlib.Omega.{arith}
use Rattle.ground.specs.Answers.{refused}
use Rattle.one_field.specs.declared.reporting.Byte.{Byte}
use Rattle.one_field.specs.declared.reporting.Byte.TheVariants as byte
use Rattle.one_field.specs.declared.reporting.Word.{Word}
use Rattle.one_field.specs.declared.reporting.Word.TheVariants as word
use Rattle.one_field.specs.Reporting.{TellsByte, TellsWord, above_byte, above_word}

pub above-byte : (k : Byte) (n : ℕ) → 255 < n → TellsByte k n (above_byte k)
above-byte byte.Uncertainty n h = record { said = refused 7; promise = (refl, omega arith); told = refl }
above-byte byte.AltitudeUncertainty n h = record { said = refused 7; promise = (refl, omega arith); told = refl }
above-byte byte.Offset n h = record { said = refused 5; promise = (refl, omega arith); told = refl }
above-byte byte.Included n h = record { said = refused 5; promise = (refl, omega arith); told = refl }
above-byte byte.Orientation n h = record { said = refused 5; promise = (refl, omega arith); told = refl }
above-byte byte.UncertaintySpeed n h = record { said = refused 7; promise = (refl, omega arith); told = refl }
above-byte byte.Confidence n h = record { said = refused 6; promise = (refl, omega arith); told = refl }

pub above_word_lem : (k : Word) (n : ℕ) → 65535 < n → TellsWord k n (above_word k)
above_word_lem word.InnerRadius n h = record { said = refused 7; promise = (refl, omega arith); told = refl }
above_word_lem word.Bearing n h = record { said = refused 5; promise = (refl, omega arith); told = refl }
above_word_lem word.HorizontalSpeed n h = record { said = refused 7; promise = (refl, omega arith); told = refl }
