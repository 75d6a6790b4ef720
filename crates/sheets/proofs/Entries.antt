-- Node lines, one after the other. Assumes nothing.
use Rattle.std.proofs.Common.{◌≡◌, ℕ, suc, ◌+◌, ◌-◌, ◌<◌, ◌≤◌, Bool, true, false, not, ◌&&◌, eqb, ltb, List, [], ◌∷◌, ◌++◌, length, IsErrAnd, Some, None, Ok, Err, Option, Result, is_ok, MatchOption, sym, refl, ap, ◌∙◌, subst, true≢false, arith, length-append, length-set, Bor, ltb-false, ltb-true, le-ltb, lt-ltb, ne_eqb}
use Rattle.std.specs.Bool.{then_some}
use Rattle.std.specs.Result.{result_ok}
use Rattle.orders.specs.declared.refusal.Refusal.{Refusal}
use Rattle.lists.specs.declared.node_line.NodeLine.{NodeLine}
use Rattle.lists.specs.declared.filled.Filled.{Filled}
use Rattle.lists.specs.Branches.{Small, Branches}
use Rattle.lists.specs.Items.{items_of, room_of, Added}
use Rattle.diagrams.specs.declared.Node.{Node}
use Rattle.diagrams.specs.Level.{level}
use Rattle.diagrams.specs.Table.{x_of, level_of}
use Rattle.diagrams.specs.Rules.{done, new_node, find, node_by, node, Asks}
use Rattle.tables.specs.Rows.{Makes}
use Rattle.sheets.specs.declared.fault.Fault.{Fault}
use Rattle.sheets.specs.Faults.{bad_node}
use Rattle.sheets.specs.Lines.{ask, after, values}
use Rattle.sheets.specs.Checks.{grown, tabled_on, tabled, paired, earlier, placed, keeps, line_from, row_by, row, Outcome, rows_by, rows}
use Rattle.sheets.specs.Gives.{Gives}
use Rattle.diagrams.specs.declared.Branch.{Branch}
use Rattle.sheets.specs.declared.reader.Reader.{Reader}
use Rattle.sheets.specs.Reading.{branch_line, Stays}
use Rattle.std.proofs.lemmas.Bool.{and_parts}
use Rattle.sheets.proofs.Keeps.{askable}

tabled_on_push : (N : List Node) (ls : List NodeLine) (a : NodeLine) → tabled_on N (ls ++ (a ∷ [])) ≡ grown (tabled_on N ls) a
tabled_on_push N [] a = refl
tabled_on_push N (b ∷ ls) a = tabled_on_push (grown N b) ls a

-- one line more is one node more
pub tabled_push : (ls : List NodeLine) (a : NodeLine) → tabled (ls ++ (a ∷ [])) ≡ grown (tabled ls) a
unfolding tabled
tabled_push ls a = tabled_on_push [] ls a

tabled_on_length : (N : List Node) (ls : List NodeLine) → length (tabled_on N ls) ≡ length N + length ls
tabled_on_length N [] = omega arith
tabled_on_length N (a ∷ ls) = tabled_on_length (grown N a) ls ∙ omega (arith, length-append N (new_node N a.x a.y a.lo a.hi ∷ []))

pub tabled_length : (ls : List NodeLine) → length (tabled ls) ≡ length ls
unfolding tabled
tabled_length ls = tabled_on_length [] ls ∙ omega arith

-- what a line that keeps the rules is
pub record Kept (N : List Node) (a : NodeLine) : Type 0 where
  pub asks : Asks N a.x a.y a.lo a.hi
  pub hi_some : 1 ≤ a.hi
  pub new : length N ≤ find N a.x a.y a.lo a.hi

not_true : (b : Bool) → not b ≡ true → b ≡ false
not_true true e = absurd (true≢false (sym e))
not_true false e = refl

pub kept : (pieces : ℕ) (N : List Node) (a : NodeLine) → length N ≤ 2046 → keeps pieces N a ≡ true → Kept N a
unfolding keeps
kept pieces N a few e =
    let p = and_parts (paired pieces a) (earlier (length N + 2) a && placed N a) e in
    let q = and_parts (earlier (length N + 2) a) (placed N a) p.1 in
    let k = askable pieces N a few p.0 q.0 in
    let t = and_parts (ltb a.lo (length N + 2)) (ltb 0 a.hi && ltb a.hi (length N + 2)) q.0 in
    let u = and_parts (ltb 0 a.hi) (ltb a.hi (length N + 2)) t.1 in
    let there = ltb (find N a.x a.y a.lo a.hi) (length N) in
    let r = and_parts (ltb (level_of N a.lo) (level a.x a.y)) (ltb (x_of N a.hi) a.x && not there) q.1 in
    let s = and_parts (ltb (x_of N a.hi) a.x) (not there) r.1 in
    record {
      asks = record {
        x_max = k.x_max;
        y_min = k.y_min;
        y_below = k.y_below;
        lo_there = omega (arith, k.lo_there);
        hi_there = omega (arith, k.hi_there);
        lo_level = ltb-true _ _ r.0;
        hi_x = ltb-true _ _ s.0;
      };
      hi_some = ltb-true 0 a.hi u.0;
      new = ltb-false _ _ (not_true there s.1);
    }

-- a line with a value that is larger than that of any node keeps no rules
pub keeps_wide : (pieces : ℕ) (N : List Node) (a : NodeLine) → length N ≤ 2046 → (Small a → ⊥) → keeps pieces N a ≡ false
keeps_wide pieces N a few wide = by (keeps pieces N a) refl
  where
    by : (b : Bool) → keeps pieces N a ≡ b → b ≡ false
    by true e =
        let k = (kept pieces N a few e).asks in
        absurd (wide record {
          x_small = omega (arith, k.x_max);
          y_small = omega (arith, k.x_max, k.y_below);
          lo_small = omega (arith, k.lo_there, few);
          hi_small = omega (arith, k.hi_there, few);
        })
    by false e = refl

-- the branch of a line is answered where it keeps the rules
pub branch_kept : (pieces : ℕ) (N : List Node) (a : NodeLine) (b : Branch) (keep : Bool) (o : Option Branch) → o ≡ then_some keep b → keep ≡ keeps pieces N a →
    branch_line b ≡ a → MatchOption o (keeps pieces N a ≡ false) (λ b. (keeps pieces N a ≡ true) × (branch_line b ≡ a))
branch_kept pieces N a b keep o is k e = subst (λ p. MatchOption p (keeps pieces N a ≡ false) (λ b. (keeps pieces N a ≡ true) × (branch_line b ≡ a))) (sym is) (by keep k)
  where
    by : (t : Bool) → t ≡ keeps pieces N a → MatchOption (then_some t b) (keeps pieces N a ≡ false) (λ b. (keeps pieces N a ≡ true) × (branch_line b ≡ a))
    by true q = (sym q, e)
    by false q = sym q

-- what a line says of a branch
pub branched : (a : NodeLine) (r : Result Branch Refusal) → Branches a r → (b : Branch) → Some b ≡ result_ok r → branch_line b ≡ a
branched a (Ok x) q b e = let same : b ≡ x = cc in ap branch_line (same ∙ q)
branched a (Err x) q b e = cc

pub too_wide : (a : NodeLine) (r : Result Branch Refusal) → Branches a r → None ≡ result_ok r → Small a → ⊥
too_wide a (Ok x) q e = cc
too_wide a (Err x) q e = q.1

pub kept_in : (pieces : ℕ) (N : List Node) (ls : List NodeLine) (a : NodeLine) → N ≡ tabled ls → length ls < 2046 → keeps pieces N a ≡ true → (length N < 2046) × Kept N a
kept_in pieces N ls a e room k =
    let long : length N ≡ length ls = ap length e ∙ tabled_length ls in
    (omega arith, kept pieces N a (omega arith) k)

-- there is room for a node that is made, and it stands last
pub made : (N M : List Node) (a : NodeLine) (r : Result ℕ Refusal) → Kept N a → length N < 2046 →
    Makes (node 2046 N a.x a.y a.lo a.hi 0) M 0 r → (is_ok r ≡ true) × (M ≡ grown N a)
unfolding node
made N M a r k room m = by r (subst (λ o. Makes o M 0 r) is m)
  where
    is : node_by N a.x a.y a.lo a.hi 0 (eqb a.hi 0) (ltb (find N a.x a.y a.lo a.hi) (length N)) (ltb (length N) 2046)
        ≡ done (grown N a) (suc (suc (length N))) 0
    is =
        let h : (a.hi ≡ 0 → ⊥) = λ e. omega (arith, k.hi_some) in
        ap (λ t. node_by N a.x a.y a.lo a.hi 0 t (ltb (find N a.x a.y a.lo a.hi) (length N)) (ltb (length N) 2046)) (ne_eqb _ _ h)
        ∙ ap (λ t. node_by N a.x a.y a.lo a.hi 0 false t (ltb (length N) 2046)) (le-ltb _ _ k.new)
        ∙ ap (λ t. node_by N a.x a.y a.lo a.hi 0 false false t) (lt-ltb _ _ room)

    by : (r : Result ℕ Refusal) → Makes (done (grown N a) (suc (suc (length N))) 0) M 0 r → (is_ok r ≡ true) × (M ≡ grown N a)
    by (Ok n) h = (refl, h.0)
    by (Err e) h = absurd h

-- one line, question by question
module _ (pieces : ℕ) (ls : List NodeLine) (text : List ℕ) where
  pub row_no_values : (f : Fault) → values 4 (length ls + 4) text ≡ Err f → rows 1 pieces ls text ≡ (ls, Err f)
  unfolding rows row
  row_no_values f e = ap (λ r. rows_by ls (after r (row_by pieces ls)) (λ a rest. (ls ++ (a ∷ []), Ok rest))) e

  module _ (ns rest : List ℕ) (one : values 4 (length ls + 4) text ≡ Ok (ns, rest)) where
    pub row_bad : keeps pieces (tabled ls) (line_from ns) ≡ false → rows 1 pieces ls text ≡ (ls, Err (bad_node (length ls + 4)))
    unfolding rows row
    row_bad e =
        ap (λ r. rows_by ls (after r (row_by pieces ls)) (λ a rest. (ls ++ (a ∷ []), Ok rest))) one
        ∙ ap (λ t. rows_by ls (ask t (bad_node (length ls + 4)) (Ok (line_from ns, rest))) (λ a rest. (ls ++ (a ∷ []), Ok rest))) e

    pub row_good : keeps pieces (tabled ls) (line_from ns) ≡ true → rows 1 pieces ls text ≡ (ls ++ (line_from ns ∷ []), Ok rest)
    unfolding rows row
    row_good e =
        ap (λ r. rows_by ls (after r (row_by pieces ls)) (λ a rest. (ls ++ (a ∷ []), Ok rest))) one
        ∙ ap (λ t. rows_by ls (ask t (bad_node (length ls + 4)) (Ok (line_from ns, rest))) (λ a rest. (ls ++ (a ∷ []), Ok rest))) e

-- a record that is added where there is room
pub added : {X : Type 0} (before after : Filled X) (a : X) (r : Result ℕ Refusal) → Added before after a r → length (items_of before) < length (room_of before) →
    (items_of after ≡ items_of before ++ (a ∷ [])) × (length (room_of after) ≡ length (room_of before))
added before after a (Ok place) g room = (g.items, ap length g.room ∙ length-set (room_of before) place a)
added before after a (Err why) d room = absurd (omega (arith, d.full))

-- a step that ended in a fault, or went on
pub gives_fault : (o : Outcome (List ℕ)) (ls : List NodeLine) (f : Fault) (r : Result (Bor (List ℕ)) Fault) → IsErrAnd r (λ y. y ≡ f) → o ≡ (ls, Err f) → Gives o ls r
gives_fault o ls f (Ok x) e h = absurd e
gives_fault o ls f (Err y) e h = (sym (ap (λ (p : Outcome (List ℕ)). p.0) h), ap (λ (p : Outcome (List ℕ)). p.1) h ∙ ap Err (sym e))

-- the first of some lines, and the others
module _ (k pieces : ℕ) (ls : List NodeLine) (text : List ℕ) where
  one_by : (r : Result (NodeLine × List ℕ) Fault) (f : Fault) → (rows_by ls r (λ a rest. (ls ++ (a ∷ []), Ok rest))).1 ≡ Err f →
      ((rows_by ls r (λ a rest. (ls ++ (a ∷ []), Ok rest))).0 ≡ ls) × (rows_by ls r (λ a rest. rows k pieces (ls ++ (a ∷ [])) rest) ≡ (ls, Err f))
  one_by (Err g) f e = (refl, ap (λ (r : Result (List ℕ) Fault). (ls, r)) e)
  one_by (Ok p) f e = let z : ◌≡◌ {A = ℕ} 0 1 = cc in absurd (omega arith)

  -- a fault of the first is that of all
  pub first_fault : (f : Fault) → (rows 1 pieces ls text).1 ≡ Err f → ((rows 1 pieces ls text).0 ≡ ls) × (rows (suc k) pieces ls text ≡ (ls, Err f))
  unfolding rows
  first_fault f e = one_by (row pieces ls text) f e

  on_by : (r : Result (NodeLine × List ℕ) Fault) (rest : List ℕ) → (rows_by ls r (λ a rest. (ls ++ (a ∷ []), Ok rest))).1 ≡ Ok rest →
      (length (rows_by ls r (λ a rest. (ls ++ (a ∷ []), Ok rest))).0 ≡ length ls + 1)
      × (rows_by ls r (λ a rest. rows k pieces (ls ++ (a ∷ [])) rest) ≡ rows k pieces (rows_by ls r (λ a rest. (ls ++ (a ∷ []), Ok rest))).0 rest)
  on_by (Err g) rest e = let z : ◌≡◌ {A = ℕ} 0 1 = cc in absurd (omega arith)
  on_by (Ok p) rest e =
      let is : p.1 ≡ rest = ap (λ (r : Result (List ℕ) Fault). elim r [ Ok t ↦ t | Err g ↦ rest ]) e in
      (length-append ls (p.0 ∷ []), ap (rows k pieces (ls ++ (p.0 ∷ []))) is)

  -- the others come after it
  pub first_on : (rest : List ℕ) → (rows 1 pieces ls text).1 ≡ Ok rest →
      (length (rows 1 pieces ls text).0 ≡ length ls + 1) × (rows (suc k) pieces ls text ≡ rows k pieces (rows 1 pieces ls text).0 rest)
  unfolding rows
  first_on rest e = on_by (row pieces ls text) rest e

pub rows_none : (count pieces : ℕ) (ls : List NodeLine) (text : List ℕ) → count ≡ 0 → rows count pieces ls text ≡ (ls, Ok text)
unfolding rows
rows_none count pieces ls text e = ap (λ n. rows n pieces ls text) e

-- the same by the number of lines
module _ (count pieces : ℕ) (ls : List NodeLine) (text : List ℕ) (some : count ≡ 0 → ⊥) (next : List NodeLine) (is : next ≡ (rows 1 pieces ls text).0) where
  more_than_one : count ≡ suc (count - 1)
  more_than_one = omega (arith, some)

  pub all_fault : (f : Fault) → (rows 1 pieces ls text).1 ≡ Err f → rows count pieces ls text ≡ (next, Err f)
  all_fault f e =
      let r = first_fault (count - 1) pieces ls text f e in
      ap (λ n. rows n pieces ls text) more_than_one ∙ r.1 ∙ ap (λ (l : List NodeLine). (l, Err f)) (sym (is ∙ r.0))

  pub all_on : (rest : List ℕ) → (rows 1 pieces ls text).1 ≡ Ok rest →
      (length next ≡ length ls + 1) × (rows count pieces ls text ≡ rows (count - 1) pieces next rest)
  all_on rest e =
      let r = first_on (count - 1) pieces ls text rest e in
      (ap length is ∙ r.0, ap (λ n. rows n pieces ls text) more_than_one ∙ r.1 ∙ ap (λ (l : List NodeLine). rows (count - 1) pieces l rest) (sym is))

-- so far k of the lines were read, and these are left
pub record Going (start : Reader) (count : ℕ) (text : List ℕ) (now : Reader) (rest : List ℕ) (k : ℕ) : Type 0 where
  pub within : k ≤ count
  pub few : length (items_of now.lines.now) + (count - k) ≤ 2046
  pub left : rows count start.pieces (items_of start.lines.now) text ≡ rows (count - k) start.pieces (items_of now.lines.now) rest
  pub stays : Stays start now

pub going_none : (start : Reader) (count : ℕ) (text : List ℕ) → length (items_of start.lines.now) + count ≤ 2046 → Going start count text start text 0
going_none start count text few = record {
  within = omega arith;
  few = omega arith;
  left = ap (λ n. rows n start.pieces (items_of start.lines.now) text) (let e : count ≡ count - 0 = omega arith in e);
  stays = record { pieces = refl; lender = refl; list = record { lender = refl; long = refl } };
}

-- one step
module _ (start : Reader) (count : ℕ) (text : List ℕ) (now : Reader) (rest : List ℕ) (k : ℕ) (g : Going start count text now rest k) (more : k < count)
    (next : Reader) (stays : Stays now next) where
  some : count - k ≡ 0 → ⊥
  some e = omega (arith, more)

  -- by the pieces of the start
  pieces_are : rows 1 now.pieces (items_of now.lines.now) rest ≡ rows 1 start.pieces (items_of now.lines.now) rest
  pieces_are = ap (λ p. rows 1 p (items_of now.lines.now) rest) g.stays.pieces

  stays_on : Stays start next
  stays_on = record {
    pieces = stays.pieces ∙ g.stays.pieces;
    lender = stays.lender ∙ g.stays.lender;
    list = record { lender = stays.list.lender ∙ g.stays.list.lender; long = stays.list.long ∙ g.stays.list.long };
  }

  pub going_more : (after : List ℕ) → items_of next.lines.now ≡ (rows 1 now.pieces (items_of now.lines.now) rest).0 →
      (rows 1 now.pieces (items_of now.lines.now) rest).1 ≡ Ok after → Going start count text next after (k + 1)
  going_more after is e =
      let on = all_on (count - k) start.pieces (items_of now.lines.now) rest some (items_of next.lines.now)
      (is ∙ ap (λ (o : Outcome (List ℕ)). o.0) pieces_are) after (ap (λ (o : Outcome (List ℕ)). o.1) (sym pieces_are) ∙ e) in
      record {
        within = omega arith;
        few = omega (arith, on.0, g.few, more);
        left = g.left ∙ on.1 ∙ ap (λ n. rows n start.pieces (items_of next.lines.now) after) (let e : count - k - 1 ≡ count - (k + 1) = omega arith in e);
        stays = stays_on;
      }

  pub going_fault : (f : Fault) (r : Result (Bor (List ℕ)) Fault) → IsErrAnd r (λ y. y ≡ f) → items_of next.lines.now ≡ (rows 1 now.pieces (items_of now.lines.now) rest).0 →
      (rows 1 now.pieces (items_of now.lines.now) rest).1 ≡ Err f →
      Gives (rows count start.pieces (items_of start.lines.now) text) (items_of next.lines.now) r
  going_fault f r y is e =
      gives_fault _ (items_of next.lines.now) f r y
      (g.left ∙ all_fault (count - k) start.pieces (items_of now.lines.now) rest some (items_of next.lines.now)
      (is ∙ ap (λ (o : Outcome (List ℕ)). o.0) pieces_are) f (ap (λ (o : Outcome (List ℕ)). o.1) (sym pieces_are) ∙ e))

pub going_end : (start : Reader) (count : ℕ) (text : List ℕ) (now : Reader) (rest : List ℕ) (k : ℕ) → Going start count text now rest k → count ≤ k →
    rows count start.pieces (items_of start.lines.now) text ≡ (items_of now.lines.now, Ok rest)
going_end start count text now rest k g h =
    let z : count - k ≡ 0 = omega arith in g.left ∙ rows_none (count - k) start.pieces (items_of now.lines.now) rest z
