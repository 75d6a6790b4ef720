-- Orders of a book, one after the other. Assumes nothing.
use Rattle.std.proofs.Common.{◌≡◌, ℕ, zero, suc, ◌+◌, ◌-◌, ◌<◌, ◌≤◌, Bool, true, false, ltb, List, [], ◌∷◌, ◌++◌, length, drop, IsErrAnd, Ok, Err, Result, sym, refl, ap, ◌∙◌, subst, ap₂, arith, length-append, length-set, Bor, ltb-true, le-ltb, lt-ltb}
use Rattle.std.proofs.lemmas.List.{drop-drop, drop-set-lt}
use Rattle.lines.specs.Format.{written, line}
use Rattle.lists.specs.declared.filled.Filled.{Filled}
use Rattle.lists.specs.Items.{items_of, room_of, Grown}
use Rattle.sheets.specs.declared.fault.Fault.{Fault}
use Rattle.sheets.specs.Lines.{ask, after, values}
use Rattle.sheets.proofs.Tops.{asked_yes, asked_no}
use Rattle.books.specs.declared.top.Book.{Book}
use Rattle.books.specs.Faults.{bad_row, no_room}
use Rattle.books.specs.Rows.{is_row, code_of}
use Rattle.books.specs.Reading.{row_by, row, Outcome, rows_by, rows}
use Rattle.books.specs.Gives.{Gives, Kept}
use Rattle.books.proofs.Lines.{Line, values_read}

-- the values that are read, by the count and the line's number as the code has them
pub as_values : (b : Book) (cs text : List ℕ) (count k : ℕ) → count ≡ b.pieces → k ≡ length cs + 4 → values b.pieces (length cs + 4) text ≡ values count k text
as_values b cs text count k p q = ap₂ (λ (m n : ℕ). values m n text) (sym p) (sym q)

-- one order, question by question
module _ (b : Book) (room : ℕ) (cs text : List ℕ) where
  pub row_no_values : (f : Fault) → values b.pieces (length cs + 4) text ≡ Err f → row b room cs text ≡ Err f
  unfolding row
  row_no_values f e = ap (λ r. after r (row_by room cs)) e

  abbrev roomed : List ℕ × List ℕ → Result (ℕ × List ℕ) Fault
  roomed p = ask (ltb (length cs) room) (no_room (length cs + 4)) (Ok (code_of p.0, p.1))

  module _ (ns rest : List ℕ) (one : values b.pieces (length cs + 4) text ≡ Ok (ns, rest)) where
    row_is : row b room cs text ≡ row_by room cs (ns, rest)
    unfolding row
    row_is = ap (λ r. after r (row_by room cs)) one

    pub row_no_order : is_row ns ≡ false → row b room cs text ≡ Err (bad_row (length cs + 4))
    row_no_order e = row_is ∙ asked_no (is_row ns) (bad_row (length cs + 4)) (roomed (ns, rest)) e

    module _ (whole : is_row ns ≡ true) where
      then_room : row b room cs text ≡ roomed (ns, rest)
      then_room = row_is ∙ asked_yes (is_row ns) (bad_row (length cs + 4)) (roomed (ns, rest)) whole

      pub row_full : room ≤ length cs → row b room cs text ≡ Err (no_room (length cs + 4))
      row_full h = then_room ∙ asked_no (ltb (length cs) room) (no_room (length cs + 4)) (Ok (code_of ns, rest)) (le-ltb (length cs) room h)

      pub row_ok : length cs < room → row b room cs text ≡ Ok (code_of ns, rest)
      row_ok h = then_room ∙ asked_yes (ltb (length cs) room) (no_room (length cs + 4)) (Ok (code_of ns, rest)) (lt-ltb (length cs) room h)

-- a fault that is passed on
pub gives_fault : (b : Book) (room : ℕ) (cs text : List ℕ) (f : Fault) (r : Result (Bor (List ℕ)) Fault) → IsErrAnd r (λ y. y ≡ f) → row b room cs text ≡ Err f → Gives b room cs text cs r
gives_fault b room cs text f (Ok x) e h = absurd e
gives_fault b room cs text f (Err y) e h = (h ∙ ap Err (sym e), refl)

-- what becomes of the lent memory
pub kept_same : (l m : Filled ℕ) → m ≡ l → Kept l m
kept_same l m e = subst (Kept l) (sym e) record { lent = record { lender = refl; long = refl }; beyond = refl }

pub kept_cleared : (l m : Filled ℕ) → room_of m ≡ room_of l → m.room.ghost_name ≡ l.room.ghost_name → Kept l m
kept_cleared l m e lender = record { lent = record { lender = lender; long = ap length e }; beyond = ap (drop (length (items_of m))) e }

pub kept_grown : (l m : Filled ℕ) (c place : ℕ) → Grown l m c place → m.room.ghost_name ≡ l.room.ghost_name → Kept l m
kept_grown l m c place g lender =
    let n : length (items_of m) ≡ length (items_of l) + 1 = ap length g.items ∙ length-append (items_of l) (c ∷ []) in
    record {
      lent = record { lender = lender; long = ap length g.room ∙ length-set (room_of l) place c };
      beyond = ap (drop (length (items_of m))) g.room ∙ drop-set-lt (length (items_of m)) (room_of l) place c (omega (arith, g.last));
    }

-- what an order that was read is
pub record Step (b : Book) (room : ℕ) (cs text : List ℕ) (c : ℕ) (rest : List ℕ) : Type 0 where
  pub row : List ℕ
  pub line : Line b.pieces text row rest
  pub whole : is_row row ≡ true
  pub free : length cs < room
  pub code : c ≡ code_of row

pub row_read : (b : Book) (room : ℕ) (cs text : List ℕ) (c : ℕ) (rest : List ℕ) → row b room cs text ≡ Ok (c, rest) → Step b room cs text c rest
unfolding row
row_read b room cs text c rest = by (values b.pieces (length cs + 4) text) refl
  where
    room_by : (ns u : List ℕ) → values b.pieces (length cs + 4) text ≡ Ok (ns, u) → is_row ns ≡ true → (t : Bool) → ltb (length cs) room ≡ t →
        ask {A = ℕ × List ℕ} t (no_room (length cs + 4)) (Ok (code_of ns, u)) ≡ Ok (c, rest) → Step b room cs text c rest
    room_by ns u v w false e h = let z : ◌≡◌ {A = ℕ} 0 1 = cc in absurd (omega arith)
    room_by ns u v w true e h =
        let one : code_of ns ≡ c = ap (λ (r : Result (ℕ × List ℕ) Fault). elim r [ Ok q ↦ q.0 | Err f ↦ c ]) h in
        let two : u ≡ rest = ap (λ (r : Result (ℕ × List ℕ) Fault). elim r [ Ok q ↦ q.1 | Err f ↦ u ]) h in
        record {
          row = ns;
          line = subst (Line b.pieces text ns) two (values_read b.pieces (length cs + 4) text ns u v);
          whole = w;
          free = ltb-true (length cs) room e;
          code = sym one;
        }

    row_in : (ns u : List ℕ) → values b.pieces (length cs + 4) text ≡ Ok (ns, u) → (t : Bool) → is_row ns ≡ t →
        ask {A = ℕ × List ℕ} t (bad_row (length cs + 4)) (ask (ltb (length cs) room) (no_room (length cs + 4)) (Ok (code_of ns, u))) ≡ Ok (c, rest) → Step b room cs text c rest
    row_in ns u v false w h = let z : ◌≡◌ {A = ℕ} 0 1 = cc in absurd (omega arith)
    row_in ns u v true w h = room_by ns u v w (ltb (length cs) room) refl h

    by : (r : Result (List ℕ × List ℕ) Fault) → values b.pieces (length cs + 4) text ≡ r → after r (row_by room cs) ≡ Ok (c, rest) → Step b room cs text c rest
    by (Err f) v h = let z : ◌≡◌ {A = ℕ} 0 1 = cc in absurd (omega arith)
    by (Ok p) v h = row_in p.0 p.1 v (is_row p.0) refl h

-- a line is taken off
pub step_shorter : (b : Book) (room : ℕ) (cs text : List ℕ) (c : ℕ) (rest : List ℕ) → row b room cs text ≡ Ok (c, rest) → length rest < length text
step_shorter b room cs text c rest e =
    let s = row_read b room cs text c rest e in
    omega (arith, ap length s.line.is, length-append (line s.row) rest, length-append (written s.row) (10 ∷ []))

-- midway: what is left comes to the same as the whole did, and there is depth enough for it
pub record Going (b : Book) (before : Filled ℕ) (whole : List ℕ) (now : Filled ℕ) (left : List ℕ) : Type 0 where
  pub depth : ℕ
  pub enough : length left ≤ depth
  pub same : rows depth b (length (room_of before)) (items_of now) left ≡ rows (length whole) b (length (room_of before)) (items_of before) whole
  pub kept : Kept before now

pub going_first : (b : Book) (before : Filled ℕ) (whole : List ℕ) → Going b before whole before whole
going_first b before whole = record { depth = length whole; enough = omega arith; same = refl; kept = kept_same before before refl }

-- one order more, where the text has not ended
pub rows_more : (k : ℕ) (b : Book) (room : ℕ) (cs text : List ℕ) → 0 < length text →
    rows (suc k) b room cs text ≡ rows_by cs (row b room cs text) (λ c rest. rows k b room (cs ++ (c ∷ [])) rest)
unfolding rows
rows_more k b room cs [] h = absurd (omega arith)
rows_more k b room cs (t ∷ ts) h = refl

pub rows_end : (k : ℕ) (b : Book) (room : ℕ) (cs text : List ℕ) → length text ≡ 0 → rows k b room cs text ≡ (cs, Ok b)
unfolding rows
rows_end zero b room cs text e = refl
rows_end (suc k) b room cs [] e = refl
rows_end (suc k) b room cs (t ∷ ts) e = absurd (omega arith)

pub kept_then : (l m n : Filled ℕ) → length (items_of m) ≤ length (items_of n) → Kept l m → Kept m n → Kept l n
kept_then l m n more a b = record {
  lent = record { lender = b.lent.lender ∙ a.lent.lender; long = b.lent.long ∙ a.lent.long };
  beyond = b.beyond ∙ drop_further (length (items_of m)) (length (items_of n)) (room_of m) (room_of l) more a.beyond;
}
  where
    drop_further : (i j : ℕ) (xs ys : List ℕ) → i ≤ j → drop i xs ≡ drop i ys → drop j xs ≡ drop j ys
    drop_further i j xs ys h e =
        let n : i + (j - i) ≡ j = omega arith in
        ap (λ m. drop m xs) (sym n) ∙ sym (drop-drop (j - i) i xs) ∙ ap (drop (j - i)) e ∙ drop-drop (j - i) i ys ∙ ap (λ m. drop m ys) n

-- one turn, by what an order answers
module _ (b : Book) (before : Filled ℕ) (whole : List ℕ) (now : Filled ℕ) (left : List ℕ) (g : Going b before whole now left) (some : 0 < length left) (next : Filled ℕ) (k : Kept now next) where
  abbrev total : Outcome
  total = rows (length whole) b (length (room_of before)) (items_of before) whole

  the_room : length (room_of now) ≡ length (room_of before)
  the_room = g.kept.lent.long

  pub going_on : (rest : Bor (List ℕ)) → Gives b (length (room_of now)) (items_of now) left (items_of next) (Ok rest) → Going b before whole next rest.now
  going_on rest (c, e, items) = by g.depth g.enough g.same
    where
      n : length (items_of next) ≡ length (items_of now) + 1
      n = ap length items ∙ length-append (items_of now) (c ∷ [])

      is : row b (length (room_of before)) (items_of now) left ≡ Ok (c, rest.now)
      is = ap (λ m. row b m (items_of now) left) (sym the_room) ∙ e

      by : (d : ℕ) → length left ≤ d → rows d b (length (room_of before)) (items_of now) left ≡ total → Going b before whole next rest.now
      by zero h s = absurd (omega arith)
      by (suc d) h s = record {
        depth = d;
        enough = omega (arith, step_shorter b (length (room_of before)) (items_of now) left c rest.now is);
        same = ap (λ l. rows d b (length (room_of before)) l rest.now) items
            ∙ sym (rows_more d b (length (room_of before)) (items_of now) left some ∙ ap (λ r. rows_by (items_of now) r (λ c rest. rows d b (length (room_of before)) (items_of now ++ (c ∷ [])) rest)) is)
            ∙ s;
        kept = kept_then before now next (omega (arith, n)) g.kept k;
      }

  pub going_fault : (f : Fault) (r : Result Book Fault) → IsErrAnd r (λ y. y ≡ f) → Gives b (length (room_of now)) (items_of now) left (items_of next) (Err f) →
      (◌≡◌ {A = Outcome} (items_of next, r) total) × Kept before next
  going_fault f (Ok x) p w = absurd p
  going_fault f (Err y) p (e, items) = (by g.depth g.enough g.same, kept_then before now next (omega (arith, ap length items)) g.kept k)
    where
      is : row b (length (room_of before)) (items_of now) left ≡ Err f
      is = ap (λ m. row b m (items_of now) left) (sym the_room) ∙ e

      by : (d : ℕ) → length left ≤ d → rows d b (length (room_of before)) (items_of now) left ≡ total → ◌≡◌ {A = Outcome} (items_of next, Err y) total
      by zero h s = absurd (omega arith)
      by (suc d) h s =
          ap₂ (λ (l : List ℕ) (z : Fault). (l, Err z)) items p
          ∙ sym (rows_more d b (length (room_of before)) (items_of now) left some ∙ ap (λ r. rows_by (items_of now) r (λ c rest. rows d b (length (room_of before)) (items_of now ++ (c ∷ [])) rest)) is)
          ∙ s

-- the text has ended
pub going_end : (b : Book) (before : Filled ℕ) (whole : List ℕ) (now : Filled ℕ) (left : List ℕ) → Going b before whole now left → length left ≡ 0 →
    ◌≡◌ {A = Outcome} (items_of now, Ok b) (rows (length whole) b (length (room_of before)) (items_of before) whole)
going_end b before whole now left g e = sym (rows_end g.depth b (length (room_of before)) (items_of now) left e) ∙ g.same
