-- The cubic first·t·h² + second·t²·h + third·t³ by Horner's steps, and what it is for each of them to be within a bound.
use Rattle.std.specs.Prelude.{ℕ, ℤ, ◌+ℤ◌, ◌*ℤ◌}
use Rattle.integers.specs.Within.{Within}

abbrev pub by_horner : (first second third t h : ℤ) → ℤ
by_horner first second third t h = ((third *ℤ t +ℤ second *ℤ h) *ℤ t +ℤ first *ℤ (h *ℤ h)) *ℤ t

-- each number that goes in, and each step, is within N
pub record HornerWithin (N : ℕ) (first second third t h : ℤ) : Type 0 where
  pub one : Within N first
  pub two : Within N second
  pub three : Within N third
  pub place : Within N t
  pub width : Within N h
  pub three_t : Within N (third *ℤ t)
  pub two_h : Within N (second *ℤ h)
  pub upper : Within N (third *ℤ t +ℤ second *ℤ h)
  pub upper_t : Within N ((third *ℤ t +ℤ second *ℤ h) *ℤ t)
  pub h_h : Within N (h *ℤ h)
  pub one_h_h : Within N (first *ℤ (h *ℤ h))
  pub lower : Within N ((third *ℤ t +ℤ second *ℤ h) *ℤ t +ℤ first *ℤ (h *ℤ h))
  pub last : Within N (by_horner first second third t h)
