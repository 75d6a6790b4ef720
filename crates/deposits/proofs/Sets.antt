-- The set that a sheet gave: the sheet is that set's own.
use Rattle.std.proofs.Common.{◌≡◌, ℕ, zero, suc, ◌+◌, ◌<◌, ◌≤◌, Bool, true, false, eqb, ltb, List, [], ◌∷◌, ◌++◌, map, length, get_or, IfOk, Some, None, Ok, Err, Option, Result, sym, refl, ap, ◌∙◌, subst, ap₂, append_assoc, append-nil, arith, length-append, ltb-true, eqb-true}
use lib.ListN.{length-map, get_or-map}
use lib.Seq.{get_or-append_seam}
use Rattle.orders.specs.declared.refusal.Refusal.{Refusal}
use Rattle.orders.specs.declared.refusal.Refusal.TheVariants.{BadNode}
use Rattle.lists.specs.declared.node_line.NodeLine.{NodeLine}
use Rattle.diagrams.specs.declared.Node.{Node}
use Rattle.diagrams.specs.Moves.{Moves}
use Rattle.diagrams.specs.Table.{at, Exists, Extends, Sound, x_of, y_of, lo_of, hi_of, count_of}
use Rattle.diagrams.specs.Table as table
use Rattle.diagrams.specs.Rules as rules
use Rattle.diagrams.specs.Rules.{done, full, node, node_by, find, is_node, new_node, Asks, NodeSet, Made, Makes}
use Rattle.diagrams.proofs.Pushes.{node_makes, is_node_same, first_here, pushed_last}
use Rattle.forms.specs.Forms.{Form, none, one, branch, form}
use Rattle.forms.specs.Visits.{blank, Sheet, sheet, read}
use Rattle.forms.specs.Walks.{reached, line_of, sheet_of}
use Rattle.forms.specs.Marks.{taken, Placed}
use Rattle.forms.proofs.Unfolds.{form_zero, form_one, form_node}
use Rattle.forms.proofs.Walks.{sheet_same}
use Rattle.forms.proofs.Decodes.{read_sheet}
use Rattle.forms.proofs.Sheets.{reached_stands}
use Rattle.forms.proofs.Steps.{placing}
use Rattle.forms.proofs.Placings.{placed_form, placed_sheet, placed_there}
use Rattle.sheets.specs.declared.fault.Fault.{Fault}
use Rattle.sheets.specs.declared.checking.Checked.{Checked}
use Rattle.sheets.specs.Checks.{tabled, checked}
use Rattle.sheets.specs.Theorems.{Accepted}
use Rattle.sheets.proofs.Entries.{tabled_length}
use Rattle.sheets.proofs.Accepts.{accepted}
use Rattle.store.specs.declared.shapes.Handle.{Handle}
use Rattle.store.specs.Views.{View, room_of, with_nodes}
use Rattle.store.specs.Questions.{ask}
use Rattle.store.specs.Steps.{node_asked, keeps_rules}
use Rattle.store.proofs.Added.{keeps_asks}
use Rattle.deposits.specs.Writing.{sheet_text}
use Rattle.deposits.specs.Reading.{Entry, enters_by, enters, rooted, reads_by, reads}
use Rattle.deposits.proofs.Writings.{text_is}

-- how many orders a form has
pub counted : Form → ℕ
counted none = 0
counted one = 1
counted (branch x y lo hi) = counted lo + counted hi

count_deep : (N : List Node) → Sound N → (b n : ℕ) → n < b → Exists N n → count_of N n ≡ counted (form N n)
unfolding count_of counted
count_deep N S zero n h e = absurd (omega arith)
count_deep N S (suc b) zero h e = sym (ap counted (form_zero N))
count_deep N S (suc b) (suc zero) h e = sym (ap counted (form_one N))
count_deep N S (suc b) (suc (suc i)) h e =
    let k = S.ok i (omega arith) in
    k.counted
    ∙ ap₂ (λ (l m : ℕ). l + m) (count_deep N S b (at N i).lo (omega (arith, k.lo_below)) (omega (arith, k.lo_below))) (count_deep N S b (at N i).hi (omega (arith, k.hi_below)) (omega (arith, k.hi_below)))
    ∙ sym (ap counted (form_node N S i (omega arith)))

pub count-form : (N : List Node) → Sound N → (n : ℕ) → Exists N n → count_of N n ≡ counted (form N n)
count-form N S n e = count_deep N S (suc n) n (omega arith) e

-- a node that was found or made has its four values
module _ (x y lo hi : ℕ) where
  Valued : List Node → ℕ → Type 0
  Valued M m = (2 ≤ m) × ((x_of M m ≡ x) × ((y_of M m ≡ y) × ((lo_of M m ≡ lo) × (hi_of M m ≡ hi))))

  Is : rules.Outcome → Type 0
  Is (done M m n) = Valued M m
  Is (full M) = Prim.Unit {0}

  module _ (cap : ℕ) (N : List Node) (some : 1 ≤ hi) where
    values : Is (node cap N x y lo hi 0)
    unfolding Is Valued node x_of y_of lo_of hi_of
    values = by (eqb hi 0) (ltb (find N x y lo hi) (length N)) (ltb (length N) cap) refl refl
      where
        by : (s t u : Bool) → eqb hi 0 ≡ s → ltb (find N x y lo hi) (length N) ≡ t → Is (node_by N x y lo hi 0 s t u)
        by true t u es et = absurd (omega (arith, eqb-true hi 0 es))
        by false true u es et =
            let q = is_node_same x y lo hi (at N (find N x y lo hi)) (first_here (is_node x y lo hi) table.blank N (ltb-true _ _ et)) in
            (omega arith, (q.0, (q.1, (q.2, q.3))))
        by false false true es et =
            let l = pushed_last N (new_node N x y lo hi) in
            (omega arith, (ap (λ (a : Node). a.x) l, (ap (λ (a : Node). a.y) l, (ap (λ (a : Node). a.lo) l, ap (λ (a : Node). a.hi) l))))
        by false false false es et = tt

-- a question that was answered yes
asked_yes : (w : View) (x y lo hi : ℕ) → node_asked w x y lo hi ≡ None → keeps_rules w x y lo hi ≡ true
unfolding node_asked
asked_yes w x y lo hi = by (keeps_rules w x y lo hi)
  where
    by : (b : Bool) → ask b BadNode None ≡ None → b ≡ true
    by true e = refl
    by false e = let z : ◌≡◌ {A = ℕ} 0 1 = cc in absurd (omega arith)

-- each line's parts come before it
Before : List NodeLine → Type 0
Before ls = (i : ℕ) → i < length ls → ((get_or ls i blank).lo < suc (suc i)) × ((get_or ls i blank).hi < suc (suc i))

-- what entering has made of the lines ps
record Have (w : View) (ps : List NodeLine) (rs : List ℕ) : Type 0 where
  sound : Sound w.nodes
  long : length rs ≡ length ps
  placed : Placed w.nodes ps (taken rs)

ok_of : Entry → List ℕ
ok_of p = elim p.1 [ Ok rs ↦ rs | Err f ↦ [] ]

tag_of : Entry → ℕ
tag_of p = elim p.1 [ Ok rs ↦ 1 | Err f ↦ 0 ]

module _ (g : Moves) where
  -- one line
  have_more : (w : View) (ps : List NodeLine) (rs : List ℕ) (a : NodeLine) (M : List Node) (m n : ℕ) → Have w ps rs → a.lo < suc (suc (length ps)) → a.hi < suc (suc (length ps)) →
      node_asked w a.x a.y (taken rs a.lo) (taken rs a.hi) ≡ None → node (room_of w) w.nodes a.x a.y (taken rs a.lo) (taken rs a.hi) 0 ≡ done M m n →
      Have (with_nodes w M) (ps ++ (a ∷ [])) (rs ++ (m ∷ []))
  unfolding Is Valued
  have_more w ps rs a M m n H lo hi q is =
      let l = taken rs a.lo in
      let h = taken rs a.hi in
      let asks = keeps_asks w a.x a.y l h (asked_yes w a.x a.y l h q) in
      let makes = subst (Makes g (room_of w) w.nodes (NodeSet g w.nodes a.x a.y l h)) is (node_makes g (room_of w) w.nodes H.sound a.x a.y l h 0 asks.0) in
      let v = subst (Is a.x a.y l h) is (values a.x a.y l h (room_of w) w.nodes asks.2) in
      record {
        sound = makes.sound;
        long = omega (arith, length-append ps (a ∷ []), length-append rs (m ∷ []), H.long);
        placed = placing.step w.nodes M makes.extends ps rs H.long H.placed a m lo hi
            record { node = v.0; there = makes.there; x_is = v.1.0; y_is = v.1.1.0; lo_is = v.1.1.1.0; hi_is = v.1.1.1.1 };
      }

  -- all of them
  entered : (ls : List NodeLine) (w : View) (ps : List NodeLine) (rs : List ℕ) → Have w ps rs → Before (ps ++ ls) → (v : View) (qs : List ℕ) → enters w rs ls ≡ (v, Ok qs) → Have v (ps ++ ls) qs
  unfolding enters ok_of tag_of Before
  entered [] w ps rs H B v qs is =
      let a : w ≡ v = ap (λ (p : Entry). p.0) is in
      let b : rs ≡ qs = ap ok_of is in
      subst (λ (u : View). Have u (ps ++ []) qs) a (subst (λ (r : List ℕ). Have w (ps ++ []) r) b (subst (λ (l : List NodeLine). Have w l rs) (sym (append-nil ps)) H))
  entered (a ∷ ls) w ps rs H B v qs is = by (node_asked w a.x a.y (taken rs a.lo) (taken rs a.hi)) (node (room_of w) w.nodes a.x a.y (taken rs a.lo) (taken rs a.hi) 0) refl refl is (entered ls)
    where
      here : get_or (ps ++ (a ∷ ls)) (length ps) blank ≡ a
      here = get_or-append_seam ps a ls blank

      at_here : ((get_or (ps ++ (a ∷ ls)) (length ps) blank).lo < suc (suc (length ps))) × ((get_or (ps ++ (a ∷ ls)) (length ps) blank).hi < suc (suc (length ps)))
      at_here = B (length ps) (omega (arith, length-append ps (a ∷ ls)))

      go : View → ℕ → Entry
      go u r = enters u (rs ++ (r ∷ [])) ls

      by : (o : Option Refusal) (k : rules.Outcome) → node_asked w a.x a.y (taken rs a.lo) (taken rs a.hi) ≡ o →
          node (room_of w) w.nodes a.x a.y (taken rs a.lo) (taken rs a.hi) 0 ≡ k → enters_by w (length rs + 4) o k go ≡ (v, Ok qs) →
          ((w : View) (ps : List NodeLine) (rs : List ℕ) → Have w ps rs → Before (ps ++ ls) → (v : View) (qs : List ℕ) → enters w rs ls ≡ (v, Ok qs) → Have v (ps ++ ls) qs) →
          Have v (ps ++ (a ∷ ls)) qs
      by (Some e) k q r is rec = absurd (omega (arith, ap tag_of is))
      by None (full M) q r is rec = absurd (omega (arith, ap tag_of is))
      by None (done M m n) q r is rec =
          let lo : a.lo < suc (suc (length ps)) = subst (λ (l : NodeLine). l.lo < suc (suc (length ps))) here at_here.0 in
          let hi : a.hi < suc (suc (length ps)) = subst (λ (l : NodeLine). l.hi < suc (suc (length ps))) here at_here.1 in
          let same : (ps ++ (a ∷ [])) ++ ls ≡ ps ++ (a ∷ ls) = append_assoc ps (a ∷ []) ls in
          subst (λ (l : List NodeLine). Have v l qs) same
          (rec (with_nodes w M) (ps ++ (a ∷ [])) (rs ++ (m ∷ [])) (have_more w ps rs a M m n H lo hi q r) (subst Before (sym same) B) v qs is)

-- the lines of a sheet come after their parts
line_at : (T : List Node) (L : List ℕ) (i : ℕ) → get_or (map (line_of T L) L) i blank ≡ line_of T L (get_or L i 0)
unfolding x_of y_of lo_of hi_of
line_at T L i = get_or-map (line_of T L) L i 0

sheet_before : (T : List Node) → Sound T → (n : ℕ) → Exists T n → Before (sheet_of T n).lines
unfolding sheet_of Before
sheet_before T S n e i l =
    let L = reached T n in
    let R = reached_stands T S n e in
    let k : i < length L = omega (arith, length-map L (line_of T L), l) in
    subst (λ (a : NodeLine). (a.lo < suc (suc i)) × (a.hi < suc (suc i))) (sym (line_at T L i)) (R.lo_before i k, R.hi_before i k)

-- the whole
handle_tag : View × Result Handle Fault → ℕ
handle_tag p = elim p.1 [ Ok h ↦ 1 | Err f ↦ 0 ]

number_in : View × Result Handle Fault → ℕ
number_in p = elim p.1 [ Ok h ↦ h.number | Err f ↦ 0 ]

module _ (g : Moves) (chain : ℕ) (w : View) (S : Sound w.nodes) (text : List ℕ) where
  module _ (ls : List NodeLine) (c : Checked) (A : Accepted w.plan.pieces chain text ls c) (u : View) (rs : List ℕ) (is : enters w [] ls ≡ (u, Ok rs)) where
    s : Sheet
    s = record { root = c.root; lines = ls }

    before : Before ls
    before = subst Before (ap (λ (t : Sheet). t.lines) A.sheet) (sheet_before (tabled ls) A.sound c.root A.there)

    have : Have u ls rs
    have = entered g ls w [] [] (record { sound = S; long = refl; placed = placing.start w.nodes }) before u rs is

    root_there : c.root < suc (suc (length ls))
    root_there = omega (arith, A.there, tabled_length ls)

    m : ℕ
    m = taken rs c.root

    given_text : text ≡ sheet_text chain u.nodes m
    unfolding s m
    given_text =
        let f = form (tabled ls) c.root in
        let of_form : s ≡ sheet f = sym A.sheet ∙ sheet_same (tabled ls) A.sound c.root A.there in
        let there = placed_there u.nodes have.sound ls (taken rs) have.placed c.root root_there in
        let again = placed_sheet u.nodes have.sound s (taken rs) have.placed root_there f of_form in
        let formed = placed_form u.nodes have.sound s (taken rs) have.placed root_there ∙ ap read of_form ∙ read_sheet f in
        let count : c.orders ≡ count_of u.nodes m =
        sym A.count ∙ count-form (tabled ls) A.sound c.root A.there ∙ ap counted (sym formed) ∙ sym (count-form u.nodes have.sound m there) in
        A.bytes ∙ text_is chain u.nodes m chain c.orders ls refl count (ap (λ (t : Sheet). t.lines) (sym again))

  -- what was read is the sheet of the set that it gave, byte for byte
  pub own_sheet : (v : View) (h : Handle) → (v, Ok h) ≡ reads chain w text → text ≡ sheet_text chain v.nodes h.number
  unfolding reads handle_tag number_in m
  own_sheet v h is = by (checked w.plan.pieces chain text) refl is
    where
      rooted_by : (ls : List NodeLine) (c : Checked) → checked w.plan.pieces chain text ≡ (ls, Ok c) → (e : Entry) → enters w [] ls ≡ e → (v, Ok h) ≡ rooted c.root e → text ≡ sheet_text chain v.nodes h.number
      rooted_by ls c q (u, Err f) r is = absurd (omega (arith, ap handle_tag is))
      rooted_by ls c q (u, Ok rs) r is =
          given_text ls c (accepted w.plan.pieces chain text ls c q) u rs r
          ∙ ap₂ (λ (x : View) (n : ℕ). sheet_text chain x.nodes n) (sym (ap (λ (p : View × Result Handle Fault). p.0) is)) (sym (ap number_in is))

      by : (o : List NodeLine × Result Checked Fault) → checked w.plan.pieces chain text ≡ o → (v, Ok h) ≡ reads_by w o → text ≡ sheet_text chain v.nodes h.number
      by (ls, Err f) q is = absurd (omega (arith, ap handle_tag is))
      by (ls, Ok c) q is = rooted_by ls c q (enters w [] ls) refl is

  pub own_sheet_made : (v : View) (r : Result Handle Fault) → (v, r) ≡ reads chain w text → IfOk r (λ h. text ≡ sheet_text chain v.nodes h.number)
  own_sheet_made v (Ok h) is = own_sheet v h is
  own_sheet_made v (Err f) is = tt
