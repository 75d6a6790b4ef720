-- What a cache remembers: a set of pairs, each a triple (kind, first, second) and its one answer. Assumes nothing.
use Rattle.std.specs.Prelude.{◌≡◌, ℕ, ◌⊎◌, Some, None, Option}

-- the answer to a triple, or nothing
abbrev pub Recalls : Type 0
Recalls = ℕ → ℕ → ℕ → Option ℕ

abbrev pub nothing : Option ℕ
nothing = None

-- no pair is remembered
abbrev pub Emptied : Recalls → Type 0
Emptied recalls = (k a b : ℕ) → recalls k a b ≡ nothing

-- What telling a pair leaves. The triple's former answer is dropped, and the new one is remembered or not, surely if the
-- cache is sure; each other triple has the answer that it had, or none any more. So nothing else is added.
pub record Told (sure : ℕ) (before after : Recalls) (kind first second answer : ℕ) : Type 0 where
  pub here : (after kind first second ≡ Some answer) ⊎ (after kind first second ≡ nothing)
  pub surely : sure ≡ 1 → after kind first second ≡ Some answer
  pub elsewhere : (k a b : ℕ) → ((k ≡ kind) × (a ≡ first) × (b ≡ second) → ⊥)
      → (after k a b ≡ before k a b) ⊎ (after k a b ≡ nothing)
