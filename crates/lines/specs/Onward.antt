-- Whoever takes a chunk apart line by line gets on with each, and not behind the chunk's end: so a loop that does it ends.
use Rattle.std.specs.Prelude.{ℕ, ◌≤◌, ◌<◌, ◌≡◌, Bool, true, false, List, ltb, length}
use Rattle.std.proofs.Common.{arith, ltb-true, ltb-false}
use Rattle.words.specs.Runs.{by_test, run_within}
use Rattle.words.specs.Lines.{other}
use Rattle.lines.specs.Taking.{end_of, Taking}

pub onward : {before : List ℕ} {held : ℕ} {chunk : List ℕ} {from : ℕ} {after : List ℕ} {n next : ℕ} {whole : Bool}
    → Taking before held chunk from after n next whole → from < length chunk → (from < next) × (next ≤ length chunk)
onward {chunk = chunk} {from = from} p h =
    let end = end_of chunk from in
    let within : end ≤ length chunk = run_within (other 10) chunk from (omega arith) in
    let there = p.following in
    by_test (ltb end (length chunk))
    (λ (t : ltb end (length chunk) ≡ true).
    let inside = ltb-true end (length chunk) t in
    let e = rw t at there in
    (omega arith, omega arith))
    (λ (t : ltb end (length chunk) ≡ false).
    let outside = ltb-false end (length chunk) t in
    let e = rw t at there in
    (omega arith, omega arith))
