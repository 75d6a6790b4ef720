-- The lines of a set, listed one after the other. Assumes nothing.
use Rattle.std.proofs.Common.{◌≡◌, ℕ, ◌+◌, ◌<◌, ◌≤◌, List, [], ◌∷◌, ◌++◌, map, length, get_or, take, Result, sym, refl, ap, ◌∙◌, subst, ap₂, arith, length-take-le, take_all}
use lib.ListN.{length-map}
use Rattle.std.proofs.lemmas.List.{map_more}
use Rattle.orders.specs.declared.refusal.Refusal.{Refusal}
use Rattle.lists.specs.declared.filled.Filled.{Filled}
use Rattle.lists.specs.declared.node_line.NodeLine.{NodeLine}
use Rattle.lists.specs.Items.{items_of, room_of, Added}
use Rattle.diagrams.specs.declared.Node.{Node}
use Rattle.diagrams.specs.Table.{Exists, Sound}
use Rattle.forms.specs.Marks.{Marks, line_by, Marked}
use Rattle.forms.specs.Walks.{reached, sheet_of}
use Rattle.forms.proofs.Sheets.{reached_stands}
use Rattle.sheets.specs.Reading.{Lent}
use Rattle.sheets.proofs.Entries.{added}

-- the lines of the first k of the numbers os are in the list
pub record Listing (N : List Node) (ms os : List ℕ) (start now : Filled NodeLine) (k : ℕ) : Type 0 where
  pub within : k ≤ length os
  pub items : items_of now ≡ map (line_by N ms) (take k os)
  pub lent : Lent start now

module _ (N : List Node) (ms os : List ℕ) (start : Filled NodeLine) where
  pub listing_none : items_of start ≡ [] → Listing N ms os start start 0
  listing_none e = record { within = omega arith; items = e; lent = record { lender = refl; long = refl } }

  pub listing_more : (now next : Filled NodeLine) (k : ℕ) (a : NodeLine) (r : Result ℕ Refusal) → Listing N ms os start now k → k < length os →
      length os ≤ length (room_of start) → a ≡ line_by N ms (get_or os k 0) → Added now next a r →
      next.room.ghost_name ≡ now.room.ghost_name → Listing N ms os start next (k + 1)
  listing_more now next k a r L h room is w lend =
      let size = length-map (take k os) (line_by N ms) in
      let few = length-take-le k os (omega arith) in
      let e = added now next a r w (omega (arith, ap length L.items, L.lent.long)) in
      record {
        within = omega arith;
        items = e.0 ∙ ap₂ (λ (l : List NodeLine) (b : NodeLine). l ++ (b ∷ [])) L.items is ∙ sym (map_more (line_by N ms) os k 0 (omega arith));
        lent = record { lender = lend ∙ L.lent.lender; long = e.1 ∙ L.lent.long };
      }

  pub listing_all : (now : Filled NodeLine) (k root : ℕ) → Listing N ms os start now k → length os ≤ k → Marked N root record { marks = ms; order = os } →
      items_of now ≡ (sheet_of N root).lines
  listing_all now k root L h M = L.items ∙ ap (map (line_by N ms)) (take_all k os h) ∙ M.lines_are

-- each is a node of the table
pub listed_node : (N : List Node) → Sound N → (root : ℕ) → Exists N root → (v : Marks) → Marked N root v → (k : ℕ) → k < length v.order →
    (2 ≤ get_or v.order k 0) × Exists N (get_or v.order k 0)
listed_node N S root there v M k h =
    let l : k < length (reached N root) = omega (arith, ap length M.order_is) in
    subst (λ n. (2 ≤ n) × Exists N n) (ap (λ z. get_or z k 0) (sym M.order_is)) ((reached_stands N S root there).nodes k l)
