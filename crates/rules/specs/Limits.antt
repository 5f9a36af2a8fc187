-- "Numbers that bound everything" of the exact rules, and the slope units of request 8 of document 02.
use Rattle.std.specs.Prelude.{ℕ, ◌^◌, ◌≤◌, ℤ, pos, negsuc, ◌*ℤ◌, ◌<ℤ◌}
use Rattle.integers.specs.Promise.{Between, magnitude}

-- "A table now carries a number s from 0 to 8"
pub record UnitWithin (s : ℕ) : Type 0 where
  pub high : s ≤ 8

-- "and slopes are in units of 1/2^s. In the rules of document 01 and CR 2 read 2^s for 256": document 01 is s = 8
abbrev pub unit : ℕ → ℤ
unit s = pos (2 ^ s)

-- "2 to 1,024 points"
pub record CountWithin (n : ℕ) : Type 0 where
  pub low : 2 ≤ n
  pub high : n ≤ 1024

-- "h from 1 to 1,024, worked out without wrapping": h is an integer of any size
abbrev pub WidthWithin : ℤ → Type 0
WidthWithin h = Between (pos 1) h (pos 1024)

-- "z from −1,048,576 to 1,048,576": `negsuc n` is −(n + 1)
abbrev pub RiseWithin : ℤ → Type 0
RiseWithin z = Between (negsuc 1048575) z (pos 1048576)

-- "refused by 8 exactly if |z|·h³ > 2^40"
pub record TooLarge (h z : ℤ) : Type 0 where
  pub above : pos (2 ^ 40) <ℤ (magnitude z *ℤ (h *ℤ h *ℤ h))
