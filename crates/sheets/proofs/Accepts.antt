-- A sheet that is accepted is the sheet of what it gives. Assumes nothing.
use Rattle.std.proofs.Common.{◌≡◌, ℕ, zero, suc, ◌+◌, ◌<◌, ◌≤◌, Bool, true, false, not, eqb, ltb, List, [], ◌∷◌, ◌++◌, map, length, get_or, take, drop, Some, None, Ok, Err, Option, Result, sym, refl, ap, ◌∙◌, subst, ap₂, true≢false, append_assoc, append-nil, arith, length-append, ltb-false, ltb-true, eq-eqb, eqb-true}
use mathlib.Core.Bool.{false≢true}
use mathlib.Core.List.{map-append}
use native.Mathlib.Decide.{dec_lt}
use Rattle.std.specs.Str.{bytes_eq}
use Rattle.std.proofs.lemmas.Slice.Eq.{bytes_eq-Decides}
use Rattle.std.proofs.lemmas.List.{take-append-drop}
use Rattle.lists.specs.declared.node_line.NodeLine.{NodeLine}
use Rattle.lines.specs.Format.{written, line, Values}
use Rattle.lines.specs.Reading.{cut, numbers}
use Rattle.lines.proofs.Readings.{Cuts, cut_is, numbers_read}
use Rattle.diagrams.specs.declared.Node.{Node}
use Rattle.diagrams.specs.Table.{blank, at, Exists, Sound, Same, count_of}
use Rattle.diagrams.specs.Rules.{is_node, new_node}
use Rattle.diagrams.proofs.Pushes.{push_sound, first_none}
use Rattle.forms.specs.Walks.{walk, reached, sheet_of, as_line}
use Rattle.forms.proofs.Owns.{owns}
use Rattle.sheets.specs.declared.fault.Fault.{Fault}
use Rattle.sheets.specs.declared.checking.Checked.{Checked}
use Rattle.sheets.specs.Faults.{bad_line, other_chain, bad_node, misnumbered, wrong_count}
use Rattle.sheets.specs.Format.{head, node_names, node_values, node_lines, sheet_bytes}
use Rattle.sheets.specs.Lines.{ask, after, names, values_by, values_in, values}
use Rattle.sheets.specs.Checks.{Top, top_by, top, grown, tabled_on, tabled, keeps, line_from, row_by, row, Outcome, rows_by, rows, marks_of, off_by, off, root_of, counts, ends, finish, checked_rows, checked_top, checked}
use Rattle.sheets.specs.Theorems.{Accepted}
use Rattle.sheets.proofs.Entries.{tabled_push, tabled_length, Kept, kept}
use Rattle.sheets.proofs.Endings.{tabled_none}

-- a question that was answered yes, and a step that went on
asked : {A : Type 0} (t : Bool) (f : Fault) (r : Result A Fault) (a : A) → ask t f r ≡ Ok a → (t ≡ true) × (r ≡ Ok a)
asked true f r a e = (refl, e)
asked false f r a e = let z : ◌≡◌ {A = ℕ} 0 1 = cc in absurd (omega arith)

went : {A B : Type 0} (r : Result A Fault) (k : A → Result B Fault) (b : B) → after r k ≡ Ok b → (a : A) × ((r ≡ Ok a) × (k a ≡ Ok b))
went (Ok a) k b e = (a, (refl, e))
went (Err f) k b e = let z : ◌≡◌ {A = ℕ} 0 1 = cc in absurd (omega arith)

ok_same : {A : Type 0} (a b : A) → ◌≡◌ {A = Result A Fault} (Ok a) (Ok b) → a ≡ b
ok_same a b e = ap (λ (r : Result _ Fault). elim r [ Ok c ↦ c | Err f ↦ a ]) e

-- names that were read stood there
names_were : (wanted : List ℕ) (k : ℕ) (text rest : List ℕ) → names wanted k text ≡ Ok rest → text ≡ wanted ++ rest
unfolding names
names_were wanted k text rest e =
    let p = asked (bytes_eq (take (length wanted) text) wanted) (bad_line k) (Ok (drop (length wanted) text)) rest e in
    sym (take-append-drop (length wanted) text) ∙ ap₂ (λ (l r : List ℕ). l ++ r) ((bytes_eq-Decides _ _).0 p.0) (ok_same _ _ p.1)

-- so did values
record Were (count : ℕ) (text ns rest : List ℕ) : Type 0 where
  is : text ≡ line ns ++ rest
  all : Values ns
  many : length ns ≡ count

values_were : (count k : ℕ) (text ns rest : List ℕ) → values count k text ≡ Ok (ns, rest) → Were count text ns rest
unfolding values
values_were count k text ns rest = by (cut text) (cut_is text)
  where
    in_line : (l after : List ℕ) → text ≡ l ++ 10 ∷ after → (r : Option (List ℕ)) → numbers l ≡ r → values_by count k after r ≡ Ok (ns, rest) → Were count text ns rest
    in_line l after t None n e = let z : ◌≡◌ {A = ℕ} 0 1 = cc in absurd (omega arith)
    in_line l after t (Some ms) n e =
        let p = asked (eqb (length ms) count) (bad_line k) (Ok (ms, after)) (ns, rest) e in
        let q = ok_same (ms, after) (ns, rest) p.1 in
        let same : ms ≡ ns = ap (λ (z : List ℕ × List ℕ). z.0) q in
        let left : after ≡ rest = ap (λ (z : List ℕ × List ℕ). z.1) q in
        let w = numbers_read l ms n in
        record {
          is = t ∙ ap (λ x. x ++ 10 ∷ after) w.is ∙ sym (append_assoc (written ms) (10 ∷ []) after) ∙ ap₂ (λ (x y : List ℕ). line x ++ y) same left;
          all = subst Values same w.values;
          many = sym (ap length same) ∙ eqb-true _ _ p.0;
        }

    by : (c : Option (List ℕ × List ℕ)) → Cuts text c → values_in count k c ≡ Ok (ns, rest) → Were count text ns rest
    by None c e = let z : ◌≡◌ {A = ℕ} 0 1 = cc in absurd (omega arith)
    by (Some p) c e = in_line p.0 p.1 c.0 (numbers p.0) refl e

three_are : (ns : List ℕ) → length ns ≡ 3 → ns ≡ get_or ns 0 0 ∷ get_or ns 1 0 ∷ get_or ns 2 0 ∷ []
three_are [] l = absurd (omega arith)
three_are (a ∷ []) l = absurd (omega arith)
three_are (a ∷ b ∷ []) l = absurd (omega arith)
three_are (a ∷ b ∷ c ∷ []) l = refl
three_are (a ∷ b ∷ c ∷ d ∷ ns) l = absurd (omega arith)

four_are : (ns : List ℕ) → length ns ≡ 4 → ns ≡ node_values (line_from ns)
four_are [] l = absurd (omega arith)
four_are (a ∷ []) l = absurd (omega arith)
four_are (a ∷ b ∷ []) l = absurd (omega arith)
four_are (a ∷ b ∷ c ∷ []) l = absurd (omega arith)
four_are (a ∷ b ∷ c ∷ d ∷ []) l = refl
four_are (a ∷ b ∷ c ∷ d ∷ e ∷ ns) l = absurd (omega arith)

-- what line 2 and the rest make
made_of : List ℕ → List ℕ → Result Top Fault
made_of ns rest = Ok record { nodes = get_or ns 1 0; orders = get_or ns 2 0; rest = rest }

-- lines 1 to 3
top_was : (chain : ℕ) (text : List ℕ) (t : Top) → top chain text ≡ Ok t →
    (t.nodes ≤ 2046) × (text ≡ head ++ (line (chain ∷ t.nodes ∷ t.orders ∷ []) ++ (node_names ++ t.rest)))
unfolding top made_of
top_was chain text t e =
    let a = went (names head 1 text) (λ rest. after (values 3 2 rest) (top_by chain)) t e in
    let b = went (values 3 2 a.0) (top_by chain) t a.1.1 in
    let ns = b.0.0 in
    let u = b.0.1 in
    let made = made_of ns in
    let c = asked (ltb (get_or ns 1 0) 2047) (bad_line 2) (ask (eqb (get_or ns 0 0) chain) other_chain (after (names node_names 3 u) made)) t b.1.1 in
    let d = asked (eqb (get_or ns 0 0) chain) other_chain (after (names node_names 3 u) made) t c.1 in
    let f = went (names node_names 3 u) made t d.1 in
    let is : record { nodes = get_or ns 1 0; orders = get_or ns 2 0; rest = f.0 } ≡ t = ok_same _ _ f.1.1 in
    let w = values_were 3 2 a.0 ns u b.1.0 in
    let nodes : get_or ns 1 0 ≡ t.nodes = ap (λ (s : Top). s.nodes) is in
    let orders : get_or ns 2 0 ≡ t.orders = ap (λ (s : Top). s.orders) is in
    let rest : f.0 ≡ t.rest = ap (λ (s : Top). s.rest) is in
    let vals : ns ≡ chain ∷ t.nodes ∷ t.orders ∷ [] =
    three_are ns w.many ∙ (λ i. eqb-true (get_or ns 0 0) chain d.0 i ∷ nodes i ∷ orders i ∷ []) in (
      omega (arith, ltb-true _ _ c.0),
      names_were head 1 text a.0 a.1.0
          ∙ ap (λ x. head ++ x) (w.is ∙ ap₂ (λ (x y : List ℕ). line x ++ y) vals (names_were node_names 3 u f.0 f.1.0 ∙ ap (λ x. node_names ++ x) rest)),
    )

-- a line that keeps the rules makes the table longer by a node
kept_sound : (N : List Node) (a : NodeLine) → Sound N → Kept N a → Sound (grown N a)
kept_sound N a S k = push_sound N (new_node N a.x a.y a.lo a.hi) S record {
  x_max = k.asks.x_max;
  y_min = k.asks.y_min;
  y_below = k.asks.y_below;
  lo_level = k.asks.lo_level;
  hi_x = k.asks.hi_x;
  hi_some = k.hi_some;
  lo_below = k.asks.lo_there;
  hi_below = k.asks.hi_there;
  counted = refl;
} fresh
  where
    fresh : (i : ℕ) → i < length N → Same (at N i) (new_node N a.x a.y a.lo a.hi) → ⊥
    fresh i l s =
        let t : is_node a.x a.y a.lo a.hi (at N i) ≡ true =
        rw (eq-eqb (at N i).x a.x s.same_x, eq-eqb (at N i).y a.y s.same_y, eq-eqb (at N i).lo a.lo s.same_lo, eq-eqb (at N i).hi a.hi s.same_hi) refl in
        false≢true (sym (first_none (is_node a.x a.y a.lo a.hi) blank N k.new i l) ∙ t)

-- node lines that were read
record Rows (k : ℕ) (ls : List NodeLine) (text : List ℕ) (o : List NodeLine) (rest : List ℕ) : Type 0 where
  fresh : List NodeLine
  is : o ≡ ls ++ fresh
  many : length fresh ≡ k
  bytes : text ≡ node_lines fresh ++ rest
  sound : Sound (tabled o)

rows_were : (k pieces : ℕ) (ls : List NodeLine) (text : List ℕ) (o : List NodeLine) (rest : List ℕ) → length ls + k ≤ 2046 → Sound (tabled ls) →
    rows k pieces ls text ≡ (o, Ok rest) → Rows k ls text o rest
unfolding rows row
rows_were zero pieces ls text o rest h S e =
    let same : ls ≡ o = ap (λ (p : Outcome (List ℕ)). p.0) e in
    record {
      fresh = [];
      is = sym same ∙ sym (append-nil ls);
      many = refl;
      bytes = ok_same _ _ (ap (λ (p : Outcome (List ℕ)). p.1) e);
      sound = subst (λ l. Sound (tabled l)) same S;
    }
rows_were (suc k) pieces ls text o rest h S e = by (after (values 4 (length ls + 4) text) (row_by pieces ls)) refl e (λ a left. rows_were k pieces (ls ++ (a ∷ [])) left o rest)
  where
    by : (r : Result (NodeLine × List ℕ) Fault) → after (values 4 (length ls + 4) text) (row_by pieces ls) ≡ r →
        rows_by ls r (λ a rest. rows k pieces (ls ++ (a ∷ [])) rest) ≡ (o, Ok rest) →
        ((a : NodeLine) (left : List ℕ) → length (ls ++ (a ∷ [])) + k ≤ 2046 → Sound (tabled (ls ++ (a ∷ []))) → rows k pieces (ls ++ (a ∷ [])) left ≡ (o, Ok rest) → Rows k (ls ++ (a ∷ [])) left o rest) →
        Rows (suc k) ls text o rest
    by (Err f) q e go = let z : ◌≡◌ {A = Result (List ℕ) Fault} (Err f) (Ok rest) = ap (λ (p : Outcome (List ℕ)). p.1) e in let y : ◌≡◌ {A = ℕ} 0 1 = cc in absurd (omega arith)
    by (Ok p) q e go =
        let a = p.0 in
        let left = p.1 in
        let v = went (values 4 (length ls + 4) text) (row_by pieces ls) p q in
        let ns = v.0.0 in
        let m = asked (keeps pieces (tabled ls) (line_from ns)) (bad_node (length ls + 4)) (Ok (line_from ns, v.0.1)) p v.1.1 in
        let same = ok_same (line_from ns, v.0.1) p m.1 in
        let line_is : line_from ns ≡ a = ap (λ (z : NodeLine × List ℕ). z.0) same in
        let left_is : v.0.1 ≡ left = ap (λ (z : NodeLine × List ℕ). z.1) same in
        let w = values_were 4 (length ls + 4) text ns v.0.1 v.1.0 in
        let vals : ns ≡ node_values a = four_are ns w.many ∙ ap node_values line_is in
        let kp = kept pieces (tabled ls) a (omega (arith, tabled_length ls)) (ap (keeps pieces (tabled ls)) (sym line_is) ∙ m.0) in
        let S' : Sound (tabled (ls ++ (a ∷ []))) = subst Sound (sym (tabled_push ls a)) (kept_sound (tabled ls) a S kp) in
        let R = go a left (omega (arith, length-append ls (a ∷ []))) S' e in
        record {
          fresh = a ∷ R.fresh;
          is = R.is ∙ append_assoc ls (a ∷ []) R.fresh;
          many = ap suc R.many;
          bytes = w.is ∙ ap₂ (λ (x y : List ℕ). line x ++ y) vals (left_is ∙ R.bytes) ∙ sym (append_assoc (line (node_values a)) (node_lines R.fresh) rest);
          sound = R.sound;
        }

-- the nodes of lines are the lines
tabled_lines : (N : List Node) (ls : List NodeLine) → map as_line (tabled_on N ls) ≡ map as_line N ++ ls
tabled_lines N [] = sym (append-nil (map as_line N))
tabled_lines N (a ∷ ls) =
    tabled_lines (grown N a) ls
    ∙ ap (λ l. l ++ ls) (map-append as_line N (new_node N a.x a.y a.lo a.hi ∷ []))
    ∙ append_assoc (map as_line N) (a ∷ []) ls

lines_back : (ls : List NodeLine) → map as_line (tabled ls) ≡ ls
unfolding tabled
lines_back ls = tabled_lines [] ls

-- marks that are all their own numbers
off_all : (k i : ℕ) (ms : List ℕ) → i + k ≤ off k i ms → (j : ℕ) → i ≤ j → j < i + k → get_or ms j 0 ≡ suc (suc j)
unfolding off
off_all zero i ms h j l m = absurd (omega arith)
off_all (suc k) i ms h j l m = by (eqb (get_or ms i 0) (suc (suc i))) refl h (off_all k (suc i) ms)
  where
    here : Dec (i < j) → eqb (get_or ms i 0) (suc (suc i)) ≡ true → (i < j → get_or ms j 0 ≡ suc (suc j)) → get_or ms j 0 ≡ suc (suc j)
    here (yes q) e go = go q
    here (no q) e go = let s : j ≡ i = omega arith in ap (λ n. get_or ms n 0) s ∙ eqb-true _ _ e ∙ ap (λ n. suc (suc n)) (sym s)

    by : (t : Bool) → eqb (get_or ms i 0) (suc (suc i)) ≡ t → i + suc k ≤ off_by t i (off k (suc i) ms) →
        (suc i + k ≤ off k (suc i) ms → (j : ℕ) → suc i ≤ j → j < suc i + k → get_or ms j 0 ≡ suc (suc j)) → get_or ms j 0 ≡ suc (suc j)
    by false e h go = absurd (omega arith)
    by true e h go = here (dec_lt i j) e (λ q. go (omega arith) j q (omega arith))

-- after the last node line
record Finished (N : List Node) (orders : ℕ) (rest : List ℕ) (c : Checked) : Type 0 where
  last : rest ≡ []
  own : length N ≤ off (length N) 0 (marks_of N)
  counted : counts N orders ≡ true
  is : record { root = root_of N orders; orders = orders } ≡ c

not_true : (b : Bool) → not b ≡ true → b ≡ false
not_true true e = absurd (true≢false (sym e))
not_true false e = refl

ends_nil : (rest : List ℕ) → ends rest ≡ true → rest ≡ []
ends_nil [] e = refl
ends_nil (c ∷ rest) e = absurd (true≢false (sym e))

finished : (N : List Node) (orders : ℕ) (rest : List ℕ) (c : Checked) → finish N orders rest ≡ Ok c → Finished N orders rest c
unfolding finish
finished N orders rest c e =
    let o = off (length N) 0 (marks_of N) in
    let good = Ok record { root = root_of N orders; orders = orders } in
    let p = asked (ends rest) (bad_line (length N + 4)) (ask (not (ltb o (length N))) (misnumbered (o + 4)) (ask (counts N orders) wrong_count good)) c e in
    let q = asked (not (ltb o (length N))) (misnumbered (o + 4)) (ask (counts N orders) wrong_count good) c p.1 in
    let r = asked (counts N orders) wrong_count good c q.1 in
    record { last = ends_nil rest p.0; own = ltb-false _ _ (not_true _ q.0); counted = r.0; is = ok_same _ _ r.1 }

-- the sheet of the root, where the marks are their own numbers
record Rooted (N : List Node) (orders root : ℕ) : Type 0 where
  there : Exists N root
  sheet : sheet_of N root ≡ record { root = root; lines = map as_line N }
  count : count_of N root ≡ orders

no_nodes : (orders : ℕ) → orders < 2 → Rooted [] orders orders
unfolding sheet_of reached walk count_of
no_nodes zero h = record { there = omega arith; sheet = refl; count = refl }
no_nodes (suc zero) h = record { there = omega arith; sheet = refl; count = refl }
no_nodes (suc (suc n)) h = absurd (omega arith)

rooted : (N : List Node) (orders : ℕ) → Sound N → length N ≤ 2046 → length N ≤ off (length N) 0 (marks_of N) → counts N orders ≡ true → Rooted N orders (root_of N orders)
unfolding marks_of
rooted [] orders S few own c = no_nodes orders (ltb-true _ _ c)
rooted (a ∷ N) orders S few own c =
    let M = a ∷ N in
    let all = off_all (length M) 0 (marks_of M) (omega arith) in
    record {
      there = omega arith;
      sheet = (owns M S (omega arith) 2046 few (suc (suc (length M))) (omega arith)).0 (λ i h. all i (omega arith) (omega arith));
      count = eqb-true _ _ c;
    }

whole : (chain : ℕ) (t : Top) (ls : List NodeLine) (rest : List ℕ) (fresh : List NodeLine) → ls ≡ fresh → length ls ≡ t.nodes → t.rest ≡ node_lines fresh ++ rest → rest ≡ [] →
    (orders : ℕ) → t.orders ≡ orders → head ++ (line (chain ∷ t.nodes ∷ t.orders ∷ []) ++ (node_names ++ t.rest)) ≡ sheet_bytes chain orders ls
unfolding sheet_bytes
whole chain t ls rest fresh lines many bytes last orders o =
    let end : t.rest ≡ node_lines ls = bytes ∙ ap₂ (λ (l : List NodeLine) (x : List ℕ). node_lines l ++ x) (sym lines) last ∙ append-nil (node_lines ls) in
    λ i. head ++ (line (chain ∷ sym many i ∷ o i ∷ []) ++ (node_names ++ end i))

-- the whole
pub accepted : (pieces chain : ℕ) (text : List ℕ) (ls : List NodeLine) (c : Checked) → checked pieces chain text ≡ (ls, Ok c) → Accepted pieces chain text ls c
unfolding checked
accepted pieces chain text ls c = by (top chain text) refl
  where
    after_rows : (t : Top) → top chain text ≡ Ok t → (o : Outcome (List ℕ)) → rows t.nodes pieces [] t.rest ≡ o → checked_rows t.orders o ≡ (ls, Ok c) → Accepted pieces chain text ls c
    after_rows t e o q h =
        let same : o.0 ≡ ls = ap (λ (p : Outcome Checked). p.0) h in
        let g = went o.1 (λ rest. finish (tabled o.0) t.orders rest) c (ap (λ (p : Outcome Checked). p.1) h) in
        let rest = g.0 in
        let f = finished (tabled o.0) t.orders rest c g.1.1 in
        let w = top_was chain text t e in
        let none : Sound (tabled []) = subst Sound (sym tabled_none) record { ok = λ i l. absurd (omega arith); apart = λ i j l m s. absurd (omega arith) } in
        let R = rows_were t.nodes pieces [] t.rest ls rest (omega (arith, w.0)) none (q ∙ (λ i. (same i, g.1.0 i))) in
        let lines : ls ≡ R.fresh = R.is in
        let many : length ls ≡ t.nodes = ap length lines ∙ R.many in
        let long = tabled_length ls in
        let r = rooted (tabled ls) t.orders R.sound (omega (arith, w.0)) (subst (λ l. length (tabled l) ≤ off (length (tabled l)) 0 (marks_of (tabled l))) same f.own)
        (ap (λ l. counts (tabled l) t.orders) (sym same) ∙ f.counted) in
        let root : root_of (tabled ls) t.orders ≡ c.root = ap (λ l. root_of (tabled l) t.orders) (sym same) ∙ ap (λ (d : Checked). d.root) f.is in
        let orders : t.orders ≡ c.orders = ap (λ (d : Checked). d.orders) f.is in
        record {
          few = omega (arith, w.0);
          sound = R.sound;
          there = subst (Exists (tabled ls)) root r.there;
          sheet = ap (sheet_of (tabled ls)) (sym root) ∙ r.sheet ∙ ap₂ (λ (n : ℕ) (l : List NodeLine). record { root = n; lines = l }) root (lines_back ls);
          count = ap (count_of (tabled ls)) (sym root) ∙ r.count ∙ orders;
          bytes = w.1 ∙ whole chain t ls rest R.fresh lines many R.bytes f.last c.orders orders;
        }

    by : (r : Result Top Fault) → top chain text ≡ r → checked_top pieces r ≡ (ls, Ok c) → Accepted pieces chain text ls c
    by (Err f) e h = let z : ◌≡◌ {A = Result Checked Fault} (Err f) (Ok c) = ap (λ (p : Outcome Checked). p.1) h in let y : ◌≡◌ {A = ℕ} 0 1 = cc in absurd (omega arith)
    by (Ok t) e h = after_rows t e (rows t.nodes pieces [] t.rest) refl h
