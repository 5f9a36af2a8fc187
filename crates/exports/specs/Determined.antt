-- The promise of each record that stands for an enum fixes the record: no two meet it. Every other promise here is that of the function below, or an equation.
use Rattle.std.specs.Prelude.{◌≡◌, refl, Bool, ℕ, ℤ, Float, Option, Result}
use Rattle.std.proofs.Common.{ap}
use Rattle.floats.proofs.Exactly.{one_float}
use Rattle.piece.specs.Promise.{Ruling, ruling}
use Rattle.piece.specs.Determined.{one_ruling}
use Rattle.table.specs.Table.{Table}
use Rattle.drive.specs.Determined.{one_driving}
use Rattle.words.specs.declared.split.Word.{Word}
use Rattle.decimals.specs.declared.reading.NotNumber.{NotNumber}
use Rattle.exports.specs.declared.answers.Judgement.{Judgement}
use Rattle.exports.specs.declared.answers.Told.{Told}
use Rattle.exports.specs.declared.text.Span.{Span}
use Rattle.exports.specs.declared.text.Read.{Read}
use Rattle.exports.specs.declared.text.Read32.{Read32}
use Rattle.exports.specs.Cases.{verdict_number, JudgedAs, judged, DrivenAs, dwells, moves, WordAs, found, nothing, NumberAs, whole, not_decimal, too_large}

-- ---- a verdict

abbrev judgement : ℕ → ℕ → ℕ → Judgement
judgement number place verdict = record { refusal = record { number = number; place = place }; verdict = verdict }

-- the record that a ruling of the exact rules is
abbrev numbered : Ruling → Judgement
numbered (ruling number place w) = judgement number place (verdict_number w)

pub one_judgement : {s : ℕ} {h z m n : ℤ} {a b p q u v : ℕ} → JudgedAs s h z m n a p u → JudgedAs s h z m n b q v → judgement a p u ≡ judgement b q v
one_judgement (judged f) (judged g) = ap numbered (one_ruling f g)

-- ---- what the drive is told: two cases that differ cannot both be

abbrev told : ℕ → ℕ → ℕ → Float → Float → Float → Told
told number place kind left numerator denominator =
    record { refusal = record { number = number; place = place }; kind = kind; left = left; numerator = numerator; denominator = denominator }

pub one_told : {t : Table} {x : ℤ} {a b p q k l : ℕ} {f g h u v w : Float} → DrivenAs t x a p k f g h → DrivenAs t x b q l u v w → told a p k f g h ≡ told b q l u v w
one_told (dwells d n m) (dwells e o r) = let s = one_driving d e in cc (s.0, s.1, s.2, one_float n o, one_float m r)
one_told (dwells d n m) (moves e) = cc (one_driving d e).2
one_told (moves d) (dwells e o r) = cc (one_driving d e).2
one_told (moves d) (moves e) = let s = one_driving d e in cc (s.0, s.1, s.2)

-- ---- a word, and a number: each case has its one record

abbrev span : Bool → ℕ → ℕ → Span
span is start end = record { found = is; start = start; end = end }

pub one_span : {w : Option Word} {f g : Bool} {a b c d : ℕ} → WordAs w f a b → WordAs w g c d → span f a b ≡ span g c d
one_span found found = refl
one_span nothing nothing = refl

-- two records of a number agree in both parts
pub one_number : {n : Result ℤ NotNumber} {j k : ℕ} {x y : ℤ} → NumberAs n j x → NumberAs n k y → (j ≡ k) × (x ≡ y)
one_number whole whole = (refl, refl)
one_number not_decimal not_decimal = (refl, refl)
one_number too_large too_large = (refl, refl)

abbrev read : ℕ → ℤ → Read
read kind value = record { kind = kind; value = value }

pub one_read : {n : Result ℤ NotNumber} {j k : ℕ} {x y : ℤ} → NumberAs n j x → NumberAs n k y → read j x ≡ read k y
one_read p q = let e = one_number p q in λ i. read (e.0 i) (e.1 i)

abbrev read32 : ℕ → ℤ → Read32
read32 kind value = record { kind = kind; value = value }

pub one_read32 : {n : Result ℤ NotNumber} {j k : ℕ} {x y : ℤ} → NumberAs n j x → NumberAs n k y → read32 j x ≡ read32 k y
one_read32 p q = let e = one_number p q in λ i. read32 (e.0 i) (e.1 i)
