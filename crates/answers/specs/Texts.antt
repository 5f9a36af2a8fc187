-- What texts are that stand one after another in one row of bytes, each ended by an LF or by the end.
use Rattle.std.specs.Prelude.{ℕ, zero, suc, List, take, drop}
use Rattle.words.specs.Lines.{first_of}

-- entry k of them, from 0: what stands before the first LF, once the k entries before it are passed with their LFs; empty where there is none
unfoldable pub entry_of : ℕ → List ℕ → List ℕ
entry_of zero texts = take (first_of 10 texts 0) texts
entry_of (suc k) texts = entry_of k (drop (suc (first_of 10 texts 0)) texts)
