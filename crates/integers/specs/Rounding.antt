-- What a rounding of quotients has to be: it leaves whole numbers as they are, keeps the order, and does not see a common factor. To the nearest, a half going up, is one.
use Rattle.std.specs.Prelude.{◌≡◌, ℤ, pos, ◌*ℤ◌, ◌≤ℤ◌, ◌<ℤ◌}
use Rattle.integers.specs.Promise.{nearest_of}
use Rattle.integers.specs.Order.{0<_product}
use Rattle.integers.specs.Nearest.{nearest_of_lem, nearest_mono, nearest_unique, nearest_whole, nearest_scale}

pub record Rounding (round : ℤ → ℤ → ℤ) : Type 0 where
  pub exact : (q : ℤ) {d : ℤ} → pos 0 <ℤ d → round (q *ℤ d) d ≡ q
  pub mono : {m n d : ℤ} → pos 0 <ℤ d → m ≤ℤ n → round m d ≤ℤ round n d
  pub scale : {c d : ℤ} (n : ℤ) → pos 0 <ℤ c → pos 0 <ℤ d → round (c *ℤ n) (c *ℤ d) ≡ round n d

pub rounding_nearest : Rounding nearest_of
rounding_nearest =
    record {
      exact = λ q h. nearest_unique h (nearest_of_lem _ h) (nearest_whole q h);
      mono = λ h l. nearest_mono h l (nearest_of_lem _ h) (nearest_of_lem _ h);
      scale = λ n c₀ d₀. nearest_unique (0<_product c₀ d₀) (nearest_of_lem _ (0<_product c₀ d₀)) (nearest_scale c₀ (nearest_of_lem n d₀));
    }
