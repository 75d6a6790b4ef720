-- The visit over a table's numbers is the visit of the form. Assumes nothing.
use Prim.{Unit, tt}
use Rattle.std.proofs.Common.{◌≡◌, ℕ, zero, suc, ◌<◌, Bool, true, false, eqb, ltb, List, [], ◌∷◌, ◌++◌, map, length, sym, refl, ap, ◌∙◌, ap₂, arith, eq-eqb, eqb-true}
use mathlib.Core.List.{map-append}
use lib.ListN.{length-map}
use Rattle.diagrams.specs.declared.Node.{Node}
use Rattle.diagrams.specs.Rules.{first_by, first}
use Rattle.diagrams.specs.Table.{at, Exists, x_of, y_of, lo_of, hi_of, Sound}
use Rattle.diagrams.proofs.Bools.{both_ways}
use Rattle.forms.specs.Forms.{Form, form}
use Rattle.lists.specs.declared.node_line.NodeLine.{NodeLine}
use Rattle.forms.specs.Visits.{same, place, number, add_by, visit, line, sheet_by, sheet}
use Rattle.forms.specs.Walks.{place_in, given, walk, reached, line_of, sheet_of}
use Rattle.forms.proofs.Sames.{same_self, same_tells}
use Rattle.forms.proofs.Unfolds.{form_zero, form_one, form_node, form_tells}

map_add : {A B : Type 0} (f : A → B) (t : Bool) (seen parts : List A) (a : A) →
    map f (add_by t seen parts a) ≡ add_by t (map f seen) (map f parts) (f a)
map_add f true seen parts a = refl
map_add f false seen parts a = map-append f parts (a ∷ [])

module _ (N : List Node) where
  -- each is a number of the table
  abbrev pub Each : List ℕ → Type 0
  Each [] = Unit {0}
  Each (n ∷ l) = Exists N n × Each l

  each_push : (l : List ℕ) (n : ℕ) → Each l → Exists N n → Each (l ++ (n ∷ []))
  each_push [] n h e = (e, tt)
  each_push (a ∷ l) n h e = (h.0, each_push l n h.1 e)

  each_add : (t : Bool) (seen parts : List ℕ) (n : ℕ) → Each seen → Each parts → Exists N n → Each (add_by t seen parts n)
  each_add true seen parts n h k e = h
  each_add false seen parts n h k e = each_push parts n k e

module _ (N : List Node) (S : Sound N) where
  pub walk_each : (d n : ℕ) (seen : List ℕ) → Exists N n → Each N seen → Each N (walk d N n seen)
  unfolding walk
  walk_each zero n seen e h = h
  walk_each (suc d) zero seen e h = h
  walk_each (suc d) (suc zero) seen e h = h
  walk_each (suc d) (suc (suc i)) seen e h =
      let k = S.ok i (omega arith) in
      each_add N _ seen _ (suc (suc i)) h
      (walk_each d (at N i).hi _ (omega arith) (walk_each d (at N i).lo seen (omega arith) h)) e

  -- two numbers are one exactly when their forms are
  test_same : (n m : ℕ) → Exists N n → Exists N m → same (form N n) (form N m) ≡ eqb n m
  test_same n m en em = both_ways _ _
      (λ e. eq-eqb n m (form_tells N S n m en em (same_tells _ _ e)))
      (λ e. ap (λ (k : ℕ). same (form N n) (form N k)) (sym (eqb-true n m e)) ∙ same_self (form N n))

  pub place_same : (l : List ℕ) (n : ℕ) → Each N l → Exists N n → place (map (form N) l) (form N n) ≡ place_in l n
  unfolding first
  place_same [] n h e = refl
  place_same (a ∷ l) n h e = ap₂ first_by (test_same n a e h.0) (place_same l n h.1 e)

  pub number_same : (l : List ℕ) (n : ℕ) → Each N l → Exists N n → number (map (form N) l) (form N n) ≡ given l n
  number_same l zero h e = ap (number (map (form N) l)) (form_zero N)
  number_same l (suc zero) h e = ap (number (map (form N) l)) (form_one N)
  number_same l (suc (suc i)) h e =
      let u = form_node N S i (omega arith) in
      ap (number (map (form N) l)) u
      ∙ ap (λ (g : Form). suc (suc (place (map (form N) l) g))) (sym u)
      ∙ ap (λ (k : ℕ). suc (suc k)) (place_same l (suc (suc i)) h e)

  pub walk_forms : (d n : ℕ) (seen : List ℕ) → n < d → Exists N n → Each N seen →
      map (form N) (walk d N n seen) ≡ visit (form N n) (map (form N) seen)
  unfolding walk visit
  walk_forms zero n seen l e h = absurd (omega arith)
  walk_forms (suc d) zero seen l e h = sym (ap (λ (g : Form). visit g (map (form N) seen)) (form_zero N))
  walk_forms (suc d) (suc zero) seen l e h = sym (ap (λ (g : Form). visit g (map (form N) seen)) (form_one N))
  walk_forms (suc d) (suc (suc i)) seen l e h =
      let b : i < length N = omega arith in
      let k = S.ok i b in
      let F = map (form N) seen in
      let u = form_node N S i b in
      let lows = walk d N (at N i).lo seen in
      let el : Each N lows = walk_each d (at N i).lo seen (omega arith) h in
      let p : map (form N) lows ≡ visit (form N (at N i).lo) F = walk_forms d (at N i).lo seen (omega arith) (omega arith) h in
      let q : map (form N) (walk d N (at N i).hi lows) ≡ visit (form N (at N i).hi) (visit (form N (at N i).lo) F) =
      walk_forms d (at N i).hi lows (omega arith) (omega arith) el ∙ ap (visit (form N (at N i).hi)) p in
      let t : ltb (place_in seen (suc (suc i))) (length seen) ≡ ltb (place F (form N (suc (suc i)))) (length F) =
      ap₂ ltb (sym (place_same seen (suc (suc i)) h e)) (sym (length-map seen (form N))) in
      map_add (form N) (ltb (place_in seen (suc (suc i))) (length seen)) seen (walk d N (at N i).hi lows) (suc (suc i))
      ∙ ap (λ (c : Bool). add_by c F (map (form N) (walk d N (at N i).hi lows)) (form N (suc (suc i)))) t
      ∙ ap (λ (z : List Form). add_by (ltb (place F (form N (suc (suc i)))) (length F)) F z (form N (suc (suc i)))) q
      ∙ ap (λ (g : Form). add_by (ltb (place F g) (length F)) F (visit (form N (at N i).hi) (visit (form N (at N i).lo) F)) g) u
      ∙ sym (ap (λ (g : Form). visit g F) u)

  line_same : (l : List ℕ) (n : ℕ) → Each N l → Exists N n → line_of N l n ≡ line (map (form N) l) (form N n)
  unfolding x_of y_of lo_of hi_of
  line_same l zero h e = sym (ap (line (map (form N) l)) (form_zero N))
  line_same l (suc zero) h e = sym (ap (line (map (form N) l)) (form_one N))
  line_same l (suc (suc i)) h e =
      let b : i < length N = omega arith in
      let k = S.ok i b in
      let lo : number (map (form N) l) (form N (at N i).lo) ≡ given l (at N i).lo = number_same l (at N i).lo h (omega arith) in
      let hi : number (map (form N) l) (form N (at N i).hi) ≡ given l (at N i).hi = number_same l (at N i).hi h (omega arith) in
      ap₂ (λ (a c : ℕ). record { x = (at N i).x; y = (at N i).y; lo = a; hi = c }) (sym lo) (sym hi)
      ∙ sym (ap (line (map (form N) l)) (form_node N S i b))

  lines_same : (l r : List ℕ) → Each N l → Each N r → map (line_of N l) r ≡ map (line (map (form N) l)) (map (form N) r)
  lines_same l [] h k = refl
  lines_same l (n ∷ r) h k = ap₂ (λ (a : NodeLine) (z : List NodeLine). a ∷ z) (line_same l n h k.0) (lines_same l r h k.1)

  pub reached_each : (n : ℕ) → Exists N n → Each N (reached N n)
  unfolding reached
  reached_each n e = walk_each (suc n) n [] e tt

  -- the forms of what is reached are the visit of the form
  pub reached_forms : (n : ℕ) → Exists N n → map (form N) (reached N n) ≡ visit (form N n) []
  unfolding reached
  reached_forms n e = walk_forms (suc n) n [] (omega arith) e tt

  -- the sheet of a number is the sheet of its form
  pub sheet_same : (n : ℕ) → Exists N n → sheet_of N n ≡ sheet (form N n)
  unfolding sheet_of sheet
  sheet_same n e =
      let l = reached N n in
      let h = reached_each n e in
      ap₂ (λ (r : ℕ) (z : List NodeLine). record { root = r; lines = z }) (sym (number_same l n h e)) (lines_same l l h h)
      ∙ ap (sheet_by (form N n)) (reached_forms n e)
