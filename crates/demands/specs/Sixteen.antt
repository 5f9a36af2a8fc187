-- "The sixteen cases marked P are proved together as a single list with a single statement": what an implementation answers in each, in the unit 1/256 of document 01, which is s = 8. The first two lists of slopes are as request 2 of document 02 amends them, and the last case as request 6 does. This file has no proof;
-- `SixteenOurs.antt` shows that ours gives them. `Demands.antt` says how to read it.
use Rattle.std.specs.Prelude.{◌≡◌, List, [], ◌∷◌, ℤ, pos, negsuc, length}
use Rattle.table.specs.Table.{table}
use Rattle.piece.specs.Promise.{Finding, rising, falling, flat, bends}
use Rattle.demands.specs.Demands.{judge, build, evaluate, Outcome, Implementation}

pub data Case : Type 0 where
  -- a piece h, z, m, n and its verdict
  piece : (h z m n : ℤ) → Finding → Case
  -- points and the slopes that they have
  slopes : (knots values slopes : List ℤ) → Case
  -- points, a position and the value there
  value : (knots values : List ℤ) (position value : ℤ) → Case

abbrev pub sixteen : List Case
sixteen =
    piece (pos 1) (pos 1) (pos 256) (pos 256) rising
    ∷ piece (pos 1) (pos 1) (pos 768) (pos 768) rising
    ∷ piece (pos 1) (pos 1) (pos 768) (pos 769) bends
    ∷ piece (pos 1) (pos 1) (pos 1024) (pos 256) rising
    ∷ piece (pos 1) (pos 1) (pos 1025) (pos 256) bends
    ∷ piece (pos 1) (pos 1) (pos 1024) (pos 255) bends
    ∷ piece (pos 1) (pos 1) (pos 768) (pos 0) rising
    ∷ piece (pos 1) (pos 1) (pos 769) (pos 0) bends
    ∷ piece (pos 1) (pos 0) (pos 0) (pos 0) flat
    ∷ piece (pos 1) (pos 0) (pos 1) (negsuc 0) bends
    ∷ piece (pos 1) (negsuc 0) (negsuc 767) (negsuc 767) falling
    ∷ piece (pos 2) (pos 1) (pos 384) (pos 384) rising
    ∷ slopes (pos 0 ∷ pos 1 ∷ pos 2 ∷ []) (pos 0 ∷ pos 1 ∷ pos 4 ∷ []) (pos 0 ∷ pos 384 ∷ pos 1024 ∷ [])
    ∷ slopes (pos 0 ∷ pos 1 ∷ pos 3 ∷ []) (pos 0 ∷ pos 1 ∷ pos 2 ∷ []) (pos 298 ∷ pos 177 ∷ pos 42 ∷ [])
    ∷ slopes (pos 0 ∷ pos 3 ∷ []) (pos 0 ∷ negsuc 9 ∷ []) (negsuc 852 ∷ negsuc 852 ∷ [])
    ∷ value (pos 0 ∷ pos 3 ∷ []) (pos 0 ∷ negsuc 9 ∷ []) (pos 1) (negsuc 2)
    ∷ []

module _ (I : Implementation) where
  -- What a case says: out of a call of `judge` may come 0 at place 0 and this verdict, and nothing else; of `build`, over any list of as many slopes, 0 at place 0 and these slopes, and
  -- nothing else; and of `evaluate`, over the table that `build` leaves, 0 at place 0 and this value, and nothing else.
  abbrev pub Gives : Case → Type 0
  Gives (piece h z m n verdict) = I.May (judge 8 h z m n) (record { number = 0; place = 0; answer = verdict; lists = tt })
      × ((o : Outcome (judge 8 h z m n)) → I.May (judge 8 h z m n) o → (o.number ≡ 0) × (o.place ≡ 0) × (o.answer ≡ verdict))
  Gives (slopes knots values these) = (before : List ℤ) → length before ≡ length knots
      → I.May (build (table 8 knots values before)) (record { number = 0; place = 0; answer = tt; lists = these })
      × ((o : Outcome (build (table 8 knots values before))) → I.May (build (table 8 knots values before)) o → (o.number ≡ 0) × (o.place ≡ 0) × (o.lists ≡ these))
  Gives (value knots values x v) = (before : List ℤ) → length before ≡ length knots → (o : Outcome (build (table 8 knots values before))) → I.May (build (table 8 knots values before)) o
      → I.May (evaluate (table 8 knots values o.lists) x) (record { number = 0; place = 0; answer = v; lists = tt })
      × ((p : Outcome (evaluate (table 8 knots values o.lists) x)) → I.May (evaluate (table 8 knots values o.lists) x) p → (p.number ≡ 0) × (p.place ≡ 0) × (p.answer ≡ v))

  infixr 20 ◌&◌
  -- every case of a list
  pub data All : List Case → Type 0 where
    none : All []
    ◌&◌ : {c : Case} {more : List Case} → Gives c → All more → All (c ∷ more)

  pub record TheSixteen : Type 0 where
    pub sixteen_of_them : length sixteen ≡ 16
    pub each_is_given : All sixteen
