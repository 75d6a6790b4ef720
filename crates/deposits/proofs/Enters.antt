-- Entering lines, one after the other.
use Rattle.std.proofs.Common.{◌≡◌, ℕ, ◌+◌, ◌-◌, ◌<◌, ◌≤◌, List, [], ◌∷◌, ◌++◌, length, get_or, drop, IsErrAnd, Some, None, Ok, Err, Option, Result, sym, refl, ap, ◌∙◌, ap₂, arith, length-append, length-drop}
use Rattle.std.proofs.lemmas.List.{drop_more, nil_from_length}
use Rattle.orders.specs.declared.refusal.Refusal.{Refusal}
use Rattle.orders.specs.declared.refusal.Refusal.TheVariants.{NoRoom}
use Rattle.lists.specs.declared.filled.Filled.{Filled}
use Rattle.lists.specs.declared.node_line.NodeLine.{NodeLine}
use Rattle.lists.specs.Items.{items_of, room_of, Added}
use Rattle.diagrams.specs.Moves.{Moves}
use Rattle.diagrams.specs.Rules as rules
use Rattle.diagrams.specs.Rules.{done, full, node}
use Rattle.forms.specs.Marks.{taken}
use Rattle.forms.specs.Visits.{blank}
use Rattle.sheets.specs.declared.fault.Fault.{Fault}
use Rattle.sheets.specs.declared.checking.Checked.{Checked}
use Rattle.sheets.specs.Checks.{checked}
use Rattle.sheets.specs.Reading.{Lent}
use Rattle.sheets.proofs.Entries.{added}
use Rattle.store.specs.declared.shapes.Handle.{Handle}
use Rattle.store.specs.Views.{View, with_nodes}
use Rattle.store.specs.Views as views
use Rattle.store.specs.Steps.{Reply, After, found, declined, held, released, returned, left, adds, node_asked, unless, worked, step}
use Rattle.deposits.specs.Reading.{in_store, Entry, enters_by, enters, Gave, reads_by, reads}

-- what the store answered, as entering has it
numbered : Reply → ℕ
numbered r = elim r [ found h ↦ h.number | declined e ↦ 0 | held h ↦ 0 | released ↦ 0 | returned e h ↦ 0 | left n ↦ 0 ]

tagged : Reply → ℕ
tagged r = elim r [ found h ↦ 1 | declined e ↦ 0 | held h ↦ 0 | released ↦ 0 | returned e h ↦ 0 | left n ↦ 0 ]

refused : Reply → Refusal
refused r = elim r [ found h ↦ NoRoom | declined e ↦ e | held h ↦ NoRoom | released ↦ NoRoom | returned e h ↦ e | left n ↦ NoRoom ]

by_found : (w v : View) (k : ℕ) (o : Option Refusal) (n : rules.Outcome) (h : Handle) (go : View → ℕ → Entry) → (v, found h) ≡ unless o w (worked w n) → enters_by w k o n go ≡ go v h.number
unfolding numbered tagged
by_found w v k (Some e) n h go is = absurd (omega (arith, ap (λ (p : After). tagged p.1) is))
by_found w v k None (done N r m) h go is = ap₂ go (sym (ap (λ (p : After). p.0) is)) (sym (ap (λ (p : After). numbered p.1) is))
by_found w v k None (full N) h go is = absurd (omega (arith, ap (λ (p : After). tagged p.1) is))

by_declined : (w v : View) (k : ℕ) (o : Option Refusal) (n : rules.Outcome) (e : Refusal) (go : View → ℕ → Entry) → (v, declined e) ≡ unless o w (worked w n) → enters_by w k o n go ≡ (v, Err (in_store e k))
unfolding tagged refused
by_declined w v k (Some e) n f go is = ap₂ (λ (u : View) (x : Refusal). (u, Err (in_store x k))) (sym (ap (λ (p : After). p.0) is)) (sym (ap (λ (p : After). refused p.1) is))
by_declined w v k None (done N r m) f go is = absurd (omega (arith, ap (λ (p : After). tagged p.1) is))
by_declined w v k None (full N) f go is = ap₂ (λ (u : View) (x : Refusal). (u, Err (in_store x k))) (sym (ap (λ (p : After). p.0) is)) (sym (ap (λ (p : After). refused p.1) is))

pub enters_none : (w : View) (rs : List ℕ) (ls : List NodeLine) → length ls ≡ 0 → enters w rs ls ≡ (w, Ok rs)
unfolding enters
enters_none w rs ls e = rw (nil_from_length ls e) refl

-- the first line and the rest
module _ (g : Moves) (w v : View) (rs : List ℕ) (a : NodeLine) (ls : List NodeLine) (lo hi : ℕ) (low : lo ≡ taken rs a.lo) (high : hi ≡ taken rs a.hi) where
  asked : Option Refusal
  asked = node_asked w a.x a.y lo hi

  made : rules.Outcome
  made = node (views.room_of w) w.nodes a.x a.y lo hi 0

  then : View → ℕ → Entry
  then u r = enters u (rs ++ (r ∷ [])) ls

  one : enters w rs (a ∷ ls) ≡ enters_by w (length rs + 4) asked made then
  unfolding enters asked made then
  one = ap₂ (λ l h. enters_by w (length rs + 4) (node_asked w a.x a.y l h) (node (views.room_of w) w.nodes a.x a.y l h 0) then) (sym low) (sym high)

  pub enters_found : (h : Handle) → (v, found h) ≡ step g w (adds a.x a.y lo hi) → enters w rs (a ∷ ls) ≡ enters v (rs ++ (h.number ∷ [])) ls
  unfolding asked made then
  enters_found h is = one ∙ by_found w v (length rs + 4) asked made h then is

  pub enters_declined : (e : Refusal) → (v, declined e) ≡ step g w (adds a.x a.y lo hi) → enters w rs (a ∷ ls) ≡ (v, Err (in_store e (length rs + 4)))
  unfolding asked made
  enters_declined e is = one ∙ by_declined w v (length rs + 4) asked made e then is

-- so far k of the lines were entered, and these are left
pub record Entering (w : View) (start : Filled ℕ) (ls : List NodeLine) (v : View) (now : Filled ℕ) (k : ℕ) : Type 0 where
  pub within : k ≤ length ls
  pub left : enters w (items_of start) ls ≡ enters v (items_of now) (drop k ls)
  pub free : length (items_of now) + (length ls - k) ≤ length (room_of now)
  pub lent : Lent start now

pub entering_none : (w : View) (start : Filled ℕ) (ls : List NodeLine) → length (items_of start) + length ls ≤ length (room_of start) → Entering w start ls w start 0
entering_none w start ls room = record { within = omega arith; left = refl; free = omega arith; lent = record { lender = refl; long = refl } }

-- one turn, by what the store answers
module _ (g : Moves) (w : View) (start : Filled ℕ) (ls : List NodeLine) (u v : View) (now : Filled ℕ) (k : ℕ) (e : Entering w start ls u now k) (more : k < length ls)
    (lo hi : ℕ) (low : lo ≡ taken (items_of now) (get_or ls k blank).lo) (high : hi ≡ taken (items_of now) (get_or ls k blank).hi) where
  next : enters w (items_of start) ls ≡ enters u (items_of now) (get_or ls k blank ∷ drop (k + 1) ls)
  next = e.left ∙ ap (enters u (items_of now)) (drop_more ls k blank more)

  pub entering_more : (h : Handle) → (v, found h) ≡ step g u (adds (get_or ls k blank).x (get_or ls k blank).y lo hi) →
      (after : Filled ℕ) (r : Result ℕ Refusal) → Added now after h.number r → after.room.ghost_name ≡ now.room.ghost_name → Entering w start ls v after (k + 1)
  entering_more h is after r a lender =
      let s = added now after h.number r a (omega (arith, e.free, more)) in
      let n = length-append (items_of now) (h.number ∷ []) in
      record {
        within = omega arith;
        left = next ∙ enters_found g u v (items_of now) (get_or ls k blank) (drop (k + 1) ls) lo hi low high h is ∙ ap (λ (l : List ℕ). enters v l (drop (k + 1) ls)) (sym s.0);
        free = omega (arith, e.free, more, ap length s.0, n, s.1);
        lent = record { lender = lender ∙ e.lent.lender; long = s.1 ∙ e.lent.long };
      }

  pub entering_declined : (x : Refusal) → (v, declined x) ≡ step g u (adds (get_or ls k blank).x (get_or ls k blank).y lo hi) →
      enters w (items_of start) ls ≡ (v, Err (in_store x (length (items_of now) + 4)))
  entering_declined x is = next ∙ enters_declined g u v (items_of now) (get_or ls k blank) (drop (k + 1) ls) lo hi low high x is

pub gave_fault : (w : View) (start : Filled ℕ) (ls : List NodeLine) (v : View) (now : Filled ℕ) (f : Fault) (r : Result (Unit {0}) Fault) → IsErrAnd r (λ y. y ≡ f) →
    enters w (items_of start) ls ≡ (v, Err f) → Gave (enters w (items_of start) ls) v (items_of now) r
gave_fault w start ls v now f (Ok x) y e = absurd y
gave_fault w start ls v now f (Err x) y e = e ∙ ap (λ (z : Fault). (v, Err z)) (sym y)

pub entering_end : (w : View) (start : Filled ℕ) (ls : List NodeLine) (v : View) (now : Filled ℕ) (k : ℕ) → Entering w start ls v now k → length ls ≤ k →
    enters w (items_of start) ls ≡ (v, Ok (items_of now))
entering_end w start ls v now k e h = e.left ∙ enters_none v (items_of now) (drop k ls) (omega (arith, length-drop k ls))

-- the whole, by what the check gave
pub reads_with : (chain : ℕ) (w : View) (text : List ℕ) (ls : List NodeLine) (r : Result Checked Fault) (pieces code : ℕ) → pieces ≡ w.plan.pieces → code ≡ chain → (ls, r) ≡ checked pieces code text → reads chain w text ≡ reads_by w (ls, r)
unfolding reads
reads_with chain w text ls r pieces code p c is = ap₂ (λ (k d : ℕ). reads_by w (checked k d text)) (sym p) (sym c) ∙ ap (reads_by w) (sym is)

-- a handle of these two numbers
abbrev pub handled : View → ℕ → ℕ → View × Result Handle Fault
handled w s n = (w, Ok record { season = s; number = n })
