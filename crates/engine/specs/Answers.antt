-- How the code answers as the rule does. Assumes nothing.
use Rattle.std.specs.Prelude.{◌≡◌, ℕ, ◌-◌, ◌^◌, ◌≤◌, min, List, Some, None, Ok, Err, Option, Result}
use Rattle.orders.specs.declared.refusal.Refusal.{Refusal}
use Rattle.orders.specs.declared.refusal.Refusal.TheVariants.{NoRoom}
use Rattle.caches.specs.Recall.{Recalls}
use Rattle.diagrams.specs.declared.Node.{Node}
use Rattle.diagrams.specs.Moves.{Moves}
use Rattle.diagrams.specs.Rules.{Outcome, done, full}
use Rattle.diagrams.specs.Script.{Script, go}
use Rattle.diagrams.specs.Work.{task}
use Rattle.engine.specs.declared.found.Found.{Found}

-- The code counts e entries where the rule counts n: at least one and at most n, and just n (or u64::MAX, where n is
-- more) if nothing is ever remembered, which is what Blank says.
pub record Counts (Blank : Type 0) (e n : ℕ) : Type 0 where
  pub least : 1 ≤ e
  pub most : e ≤ n
  pub just : Blank → e ≡ min n (2 ^ 64 - 1)

-- The code answers as the rule does: the rule's number over the rule's table, with a count of entries; or it refuses for
-- want of room just where the rule is full, over the table that the rule has made by then.
abbrev pub As : Type 0 → Outcome → List Node → Result (Found ℕ) Refusal → Type 0
As Blank (done M s n) N (Ok j) = (N ≡ M) × (j.set ≡ s) × Counts Blank j.entries n
As Blank (done M s n) N (Err e) = ⊥
As Blank (full M) N (Ok j) = ⊥
As Blank (full M) N (Err e) = (N ≡ M) × (e ≡ NoRoom)

-- After e entries, the code does from the table N on what the script s says.
abbrev pub Does : Moves → ℕ → Type 0 → List Node → ℕ → Script → List Node → Result (Found ℕ) Refusal → Type 0
Does g cap Blank N e s M r = (n : ℕ) → Counts Blank e n → As Blank (go cap (task g cap) N s n) M r

-- a cache that never remembers
abbrev pub Forgets : (C : Type 0) → (C → Recalls) → Type 0
Forgets C recalls = (c : C) (k a b : ℕ) → recalls c k a b ≡ None

-- where the triple was remembered there is an answer, with just one entry
abbrev pub Once : Option ℕ → Result (Found ℕ) Refusal → Type 0
Once None r = Unit {0}
Once (Some v) (Ok j) = j.entries ≡ 1
Once (Some v) (Err e) = ⊥
