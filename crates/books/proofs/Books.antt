-- What is accepted is what would be written. Assumes nothing.
use Rattle.std.proofs.Common.{◌≡◌, ℕ, zero, suc, ◌+◌, ◌<◌, ◌≤◌, Bool, true, false, ◌&&◌, ltb, List, [], ◌∷◌, ◌++◌, map, length, get_or, take, drop, IsErrAnd, Ok, Err, Result, sym, refl, ap, ◌∙◌, subst, ap₂, append_assoc, append-nil, arith, length-append, ltb-true, lt-ltb}
use Rattle.std.specs.List.{flat_map, AllByRecursion}
use Rattle.std.specs.Str.{bytes_eq}
use Rattle.std.proofs.lemmas.Slice.Eq.{bytes_eq-Decides}
use Rattle.std.proofs.lemmas.List.{take-append-drop}
use Rattle.orders.specs.declared.order.Order.{Order}
use Rattle.orders.specs.Dimension.{dimension}
use Rattle.orders.specs.Entries.{row_of}
use Rattle.orders.specs.Named.{order}
use Rattle.lines.specs.Format.{written, line}
use Rattle.sheets.specs.declared.fault.Fault.{Fault}
use Rattle.sheets.specs.Faults.{bad_line}
use Rattle.sheets.specs.Lines.{ask, after, names, values}
use Rattle.sheets.proofs.Fronts.{names_ok}
use Rattle.sheets.proofs.Tops.{asked_yes}
use Rattle.std.proofs.lemmas.Bool.{and_parts}
use Rattle.books.specs.declared.top.Book.{Book}
use Rattle.books.specs.Faults.{bad_pieces, other_chain}
use Rattle.books.specs.Format.{head, order_name, order_line, book_bytes}
use Rattle.books.specs.Rows.{code_of}
use Rattle.books.specs.Reading.{book_of, third, second, top, row, Outcome, rows_by, rows, reads_on, read}
use Rattle.books.specs.Exact.{IsBook, Exact}
use Rattle.books.proofs.Rows.{row_writes, written_row, written_code, front_length, front_row, front_values, written_front, written_dimension}
use Rattle.books.proofs.Lines.{values_written, values_read}
use Rattle.books.proofs.Tops.{top_ok}
use Rattle.books.proofs.Steps.{row_ok, row_read, step_shorter, rows_more, rows_end}

-- the codes of orders
abbrev pub codes_of : List Order → List ℕ
codes_of os = map (λ o. o.code) os

-- a book's pieces and chain are as they must be
pub record Fair (b : Book) : Type 0 where
  pub pieces_min : 2 ≤ b.pieces
  pub pieces_max : b.pieces ≤ 16
  pub chain_min : 1 ≤ b.chain
  pub chain_max : b.chain ≤ 2

-- orders that were written are read
module _ (b : Book) (fair : Fair b) (room : ℕ) where
  row_written : (cs : List ℕ) (o : Order) (rest : List ℕ) → dimension o ≤ b.pieces → length cs < room → row b room cs (order_line b.pieces o ++ rest) ≡ Ok (o.code, rest)
  row_written cs o rest d free =
      let n = b.pieces in
      let some : 1 ≤ n = omega (arith, fair.pieces_min) in
      let ns = take n (row_of o) in
      let long = front_length o n some fair.pieces_max in
      let w = front_row o n some fair.pieces_max d in
      row_ok b room cs (line ns ++ rest) ns rest
      (values_written n (length cs + 4) ns rest (front_values o n some fair.pieces_max) (omega (arith, long)) (omega (arith, long, fair.pieces_max)) long)
      (written_row ns o w) free
      ∙ ap (λ (c : ℕ). Ok (c, rest)) (written_code ns o w)

  lines-length : (o : Order) (rest : List ℕ) → length (order_line b.pieces o ++ rest) ≡ (length (written (take b.pieces (row_of o))) + 1) + length rest
  lines-length o rest =
      let ns = take b.pieces (row_of o) in
      length-append (line ns) rest ∙ ap (λ n. n + length rest) (length-append (written ns) (10 ∷ []))

  pub rows_written : (k : ℕ) (cs : List ℕ) (os : List Order) → AllByRecursion (λ o. dimension o ≤ b.pieces) os → length cs + length os ≤ room →
      length (flat_map (order_line b.pieces) os) ≤ k → rows k b room cs (flat_map (order_line b.pieces) os) ≡ (cs ++ codes_of os, Ok b)
  rows_written k cs [] d l h = rows_end k b room cs [] refl ∙ ap (λ (l : List ℕ). (l, Ok b)) (sym (append-nil cs))
  rows_written zero cs (o ∷ os) d l h = absurd (omega (arith, lines-length o (flat_map (order_line b.pieces) os)))
  rows_written (suc k) cs (o ∷ os) d l h =
      let rest = flat_map (order_line b.pieces) os in
      let long = lines-length o rest in
      rows_more k b room cs (order_line b.pieces o ++ rest) (omega (arith, long))
      ∙ ap (λ r. rows_by cs r (λ c rest. rows k b room (cs ++ (c ∷ [])) rest)) (row_written cs o rest d.0 (omega arith))
      ∙ rows_written k (cs ++ (o.code ∷ [])) os d.1 (omega (arith, length-append cs (o.code ∷ []))) (omega (arith, long))
      ∙ ap (λ (l : List ℕ). (l, Ok b)) (append_assoc cs (o.code ∷ []) (codes_of os))

-- orders that were read are written so
pub record Orders (b : Book) (room : ℕ) (cs text now : List ℕ) : Type 0 where
  pub orders : List Order
  pub within : AllByRecursion (λ o. dimension o ≤ b.pieces) orders
  pub codes : now ≡ cs ++ codes_of orders
  pub fits : length cs + length orders ≤ room
  pub bytes : text ≡ flat_map (order_line b.pieces) orders

no_orders : (b : Book) (room : ℕ) (cs text now : List ℕ) → length cs ≤ room → cs ≡ now → text ≡ [] → Orders b room cs text now
no_orders b room cs text now l e t = record { orders = []; within = tt; codes = sym e ∙ sym (append-nil cs); fits = omega arith; bytes = t }

one_more : (b : Book) (room : ℕ) (cs text now : List ℕ) (c : ℕ) (rest : List ℕ) → row b room cs text ≡ Ok (c, rest) → Orders b room (cs ++ (c ∷ [])) rest now → Orders b room cs text now
unfolding code_of
one_more b room cs text now c rest e os =
    let s = row_read b room cs text c rest e in
    let o = order s.row in
    let l = s.line in
    let w = row_writes s.row l.some l.few s.whole in
    let front : take b.pieces (row_of o) ≡ s.row = ap (λ n. take n (row_of o)) (sym l.many) ∙ written_front s.row o w in
    record {
      orders = o ∷ os.orders;
      within = (omega (arith, l.many, written_dimension s.row o w), os.within);
      codes = os.codes ∙ append_assoc cs (c ∷ []) (codes_of os.orders) ∙ ap (λ (n : ℕ). cs ++ (n ∷ codes_of os.orders)) s.code;
      fits = omega (arith, os.fits, length-append cs (c ∷ []));
      bytes = l.is ∙ ap₂ (λ (a r : List ℕ). line a ++ r) (sym front) os.bytes;
    }

same_codes : (a c : List ℕ) (r s : Result Book Fault) → ◌≡◌ {A = Outcome} (a, r) (c, s) → (a ≡ c) × (r ≡ s)
same_codes a c r s e = (ap (λ (p : Outcome). p.0) e, ap (λ (p : Outcome). p.1) e)

no_ok : (f : Fault) (b : Book) → ◌≡◌ {A = Result Book Fault} (Err f) (Ok b) → ⊥
no_ok f b e = let z : ◌≡◌ {A = ℕ} 0 1 = cc in omega arith

the_book : (a b : Book) → ◌≡◌ {A = Result Book Fault} (Ok a) (Ok b) → a ≡ b
the_book a b e = ap (λ (r : Result Book Fault). elim r [ Ok x ↦ x | Err f ↦ a ]) e

empty : (text : List ℕ) → length text ≤ 0 → text ≡ []
empty [] h = refl
empty (t ∷ ts) h = absurd (omega arith)

pub rows_read : (k : ℕ) (b : Book) (room : ℕ) (cs text now : List ℕ) (a : Book) → length text ≤ k → length cs ≤ room → rows k b room cs text ≡ (now, Ok a) → Orders b room cs text now × (b ≡ a)
unfolding rows
rows_read zero b room cs text now a h l e = let s = same_codes cs now (Ok b) (Ok a) e in (no_orders b room cs text now l s.0 (empty text h), the_book b a s.1)
rows_read (suc k) b room cs [] now a h l e = let s = same_codes cs now (Ok b) (Ok a) e in (no_orders b room cs [] now l s.0 refl, the_book b a s.1)
rows_read (suc k) b room cs (t ∷ ts) now a h l e = by (λ ds rest. rows_read k b room ds rest now a) (row b room cs (t ∷ ts)) refl e
  where
    by : ((ds rest : List ℕ) → length rest ≤ k → length ds ≤ room → rows k b room ds rest ≡ (now, Ok a) → Orders b room ds rest now × (b ≡ a)) →
        (r : Result (ℕ × List ℕ) Fault) → row b room cs (t ∷ ts) ≡ r → rows_by cs r (λ c rest. rows k b room (cs ++ (c ∷ [])) rest) ≡ (now, Ok a) → Orders b room cs (t ∷ ts) now × (b ≡ a)
    by again (Err f) v w = absurd (no_ok f a (same_codes cs now (Err f) (Ok a) w).1)
    by again (Ok p) v w =
        let s = row_read b room cs (t ∷ ts) p.0 p.1 v in
        let m = again (cs ++ (p.0 ∷ [])) p.1 (omega (arith, step_shorter b room cs (t ∷ ts) p.0 p.1 v)) (omega (arith, s.free, length-append cs (p.0 ∷ []))) w in
        (one_more b room cs (t ∷ ts) now p.0 p.1 v m.0, m.1)

-- lines 1 to 3 that were written are read
abbrev top_bytes : Book → List ℕ → List ℕ
top_bytes b rest = head ++ (line (b.pieces ∷ b.chain ∷ []) ++ (order_name ++ rest))

fair_book : (b : Book) → Fair b → book_of b.pieces b.chain ≡ Ok b
fair_book b f =
    asked_yes (ltb 1 b.pieces && ltb b.pieces 17) bad_pieces (ask (ltb 0 b.chain && ltb b.chain 3) other_chain (Ok b))
    (ap₂ ◌&&◌ (lt-ltb 1 b.pieces f.pieces_min) (lt-ltb b.pieces 17 (omega (arith, f.pieces_max))))
    ∙ asked_yes (ltb 0 b.chain && ltb b.chain 3) other_chain (Ok b)
    (ap₂ ◌&&◌ (lt-ltb 0 b.chain f.chain_min) (lt-ltb b.chain 3 (omega (arith, f.chain_max))))

pub top_written : (b : Book) (rest : List ℕ) → Fair b → top (top_bytes b rest) ≡ Ok (b, rest)
top_written b rest f =
    let ns = b.pieces ∷ b.chain ∷ [] in
    let u = order_name ++ rest in
    top_ok (top_bytes b rest) (line ns ++ u) (names_ok head 1 (top_bytes b rest) (line ns ++ u) refl)
    ns u (values_written 2 2 ns u (omega (arith, f.pieces_max), (omega (arith, f.chain_max), tt)) (omega arith) (omega arith) refl)
    b (fair_book b f) rest (names_ok order_name 3 u rest refl)

-- and those that were read are written so
names_read : (wanted : List ℕ) (k : ℕ) (text rest : List ℕ) → names wanted k text ≡ Ok rest → text ≡ wanted ++ rest
unfolding names
names_read wanted k text rest = by (bytes_eq (take (length wanted) text) wanted) refl
  where
    by : (t : Bool) → bytes_eq (take (length wanted) text) wanted ≡ t → ask t (bad_line k) (Ok (drop (length wanted) text)) ≡ Ok rest → text ≡ wanted ++ rest
    by false e h = let z : ◌≡◌ {A = ℕ} 0 1 = cc in absurd (omega arith)
    by true e h =
        let is : drop (length wanted) text ≡ rest = ap (λ (r : Result (List ℕ) Fault). elim r [ Ok t ↦ t | Err f ↦ rest ]) h in
        sym (take-append-drop (length wanted) text) ∙ ap₂ (λ (a b : List ℕ). a ++ b) ((bytes_eq-Decides _ _).0 e) is

book_read : (pieces chain : ℕ) (b : Book) → book_of pieces chain ≡ Ok b → (pieces ≡ b.pieces) × (chain ≡ b.chain) × Fair b
book_read pieces chain b = by (ltb 1 pieces && ltb pieces 17) refl
  where
    chain_by : (t : Bool) → (ltb 1 pieces && ltb pieces 17) ≡ true → (ltb 0 chain && ltb chain 3) ≡ t → ask {A = Book} t other_chain (Ok record { pieces = pieces; chain = chain }) ≡ Ok b →
        (pieces ≡ b.pieces) × (chain ≡ b.chain) × Fair b
    chain_by false p c h = let z : ◌≡◌ {A = ℕ} 0 1 = cc in absurd (omega arith)
    chain_by true p c h =
        let is = the_book record { pieces = pieces; chain = chain } b h in
        let q = and_parts (ltb 1 pieces) (ltb pieces 17) p in
        let d = and_parts (ltb 0 chain) (ltb chain 3) c in
        let one : pieces ≡ b.pieces = ap (λ (a : Book). a.pieces) is in
        let two : chain ≡ b.chain = ap (λ (a : Book). a.chain) is in (
          one,
          two,
          record {
            pieces_min = omega (arith, ltb-true 1 pieces q.0);
            pieces_max = omega (arith, ltb-true pieces 17 q.1);
            chain_min = omega (arith, ltb-true 0 chain d.0);
            chain_max = omega (arith, ltb-true chain 3 d.1);
          },
        )

    by : (t : Bool) → (ltb 1 pieces && ltb pieces 17) ≡ t → ask {A = Book} t bad_pieces (ask (ltb 0 chain && ltb chain 3) other_chain (Ok record { pieces = pieces; chain = chain })) ≡ Ok b →
        (pieces ≡ b.pieces) × (chain ≡ b.chain) × Fair b
    by false p h = let z : ◌≡◌ {A = ℕ} 0 1 = cc in absurd (omega arith)
    by true p h = chain_by (ltb 0 chain && ltb chain 3) p refl h

two_values : (ns : List ℕ) → length ns ≡ 2 → ns ≡ get_or ns 0 0 ∷ get_or ns 1 0 ∷ []
two_values [] e = absurd (omega arith)
two_values (a ∷ []) e = absurd (omega arith)
two_values (a ∷ b ∷ []) e = refl
two_values (a ∷ b ∷ c ∷ ns) e = absurd (omega arith)

pub top_read : (text : List ℕ) (b : Book) (rest : List ℕ) → top text ≡ Ok (b, rest) → Fair b × (text ≡ top_bytes b rest)
unfolding top
top_read text b rest = by (names head 1 text) refl
  where
    third_by : (t u ns : List ℕ) (a : Book) (r : Result (List ℕ) Fault) → text ≡ head ++ t → t ≡ line ns ++ u → ns ≡ a.pieces ∷ a.chain ∷ [] → Fair a →
        names order_name 3 u ≡ r → after {B = Book × List ℕ} r (λ rest. Ok (a, rest)) ≡ Ok (b, rest) → Fair b × (text ≡ top_bytes b rest)
    third_by t u ns a (Err f) one two three fair v h = let z : ◌≡◌ {A = ℕ} 0 1 = cc in absurd (omega arith)
    third_by t u ns a (Ok v) one two three fair four h =
        let is : a ≡ b = ap (λ (r : Result (Book × List ℕ) Fault). elim r [ Ok q ↦ q.0 | Err f ↦ a ]) h in
        let left : v ≡ rest = ap (λ (r : Result (Book × List ℕ) Fault). elim r [ Ok q ↦ q.1 | Err f ↦ v ]) h in (
          subst Fair is fair,
          one ∙ ap (λ (l : List ℕ). head ++ l) (two ∙ ap₂ (λ (a b : List ℕ). line a ++ b) three (names_read order_name 3 u v four))
              ∙ ap₂ top_bytes is left,
        )

    book_by : (t u ns : List ℕ) (r : Result Book Fault) → text ≡ head ++ t → t ≡ line ns ++ u → length ns ≡ 2 →
        book_of (get_or ns 0 0) (get_or ns 1 0) ≡ r → after r (third u) ≡ Ok (b, rest) → Fair b × (text ≡ top_bytes b rest)
    book_by t u ns (Err f) one two n v h = let z : ◌≡◌ {A = ℕ} 0 1 = cc in absurd (omega arith)
    book_by t u ns (Ok a) one two n v h =
        let k = book_read (get_or ns 0 0) (get_or ns 1 0) a v in
        third_by t u ns a (names order_name 3 u) one two (two_values ns n ∙ ap₂ (λ (p c : ℕ). p ∷ c ∷ []) k.0 k.1) k.2 refl h

    values_by : (t : List ℕ) (r : Result (List ℕ × List ℕ) Fault) → text ≡ head ++ t → values 2 2 t ≡ r → after r second ≡ Ok (b, rest) → Fair b × (text ≡ top_bytes b rest)
    values_by t (Err f) one v h = let z : ◌≡◌ {A = ℕ} 0 1 = cc in absurd (omega arith)
    values_by t (Ok p) one v h =
        let l = values_read 2 2 t p.0 p.1 v in
        book_by t p.1 p.0 (book_of (get_or p.0 0 0) (get_or p.0 1 0)) one l.is l.many refl h

    by : (r : Result (List ℕ) Fault) → names head 1 text ≡ r → after r (λ rest. after (values 2 2 rest) second) ≡ Ok (b, rest) → Fair b × (text ≡ top_bytes b rest)
    by (Err f) v h = let z : ◌≡◌ {A = ℕ} 0 1 = cc in absurd (omega arith)
    by (Ok t) v h = values_by t (values 2 2 t) (names_read head 1 text t v) refl h

-- a whole book
read_written : (room : ℕ) (text : List ℕ) (b : Book) (os : List Order) → IsBook text b os → length os ≤ room → read room text ≡ (codes_of os, Ok b)
unfolding read book_bytes
read_written room text b os w l =
    let fair : Fair b = record { pieces_min = w.pieces_min; pieces_max = w.pieces_max; chain_min = w.chain_min; chain_max = w.chain_max } in
    let rest = flat_map (order_line b.pieces) os in
    ap (λ t. reads_on room (top t)) w.bytes
    ∙ ap (reads_on room) (top_written b rest fair)
    ∙ rows_written b fair room (length rest) [] os w.within (omega arith) (omega arith)

read_read : (room : ℕ) (text cs : List ℕ) (b : Book) → read room text ≡ (cs, Ok b) → Exact room text cs (Ok b)
unfolding read book_bytes
read_read room text cs b = by (top text) refl
  where
    by : (r : Result (Book × List ℕ) Fault) → top text ≡ r → reads_on room r ≡ (cs, Ok b) → Exact room text cs (Ok b)
    by (Err f) v h = absurd (no_ok f b (same_codes [] cs (Err f) (Ok b) h).1)
    by (Ok p) v h =
        let t = top_read text p.0 p.1 v in
        let m = rows_read (length p.1) p.0 room [] p.1 cs b (omega arith) (omega arith) h in
        let os = m.0 in
        subst (λ (a : Book). Exact room text cs (Ok a)) m.1 (
          os.orders,
          record {
            pieces_min = t.0.pieces_min;
            pieces_max = t.0.pieces_max;
            chain_min = t.0.chain_min;
            chain_max = t.0.chain_max;
            within = os.within;
            bytes = t.1 ∙ ap (top_bytes p.0) os.bytes;
          },
          os.codes,
          omega (arith, os.fits),
        )

-- what is accepted is exactly a book
pub exact : (room : ℕ) (text cs : List ℕ) (r : Result Book Fault) → ◌≡◌ {A = Outcome} (cs, r) (read room text) → Exact room text cs r
exact room text cs (Ok b) e = read_read room text cs b (sym e)
exact room text cs (Err f) e = λ b os w l. no_ok f b (ap (λ (p : Outcome). p.1) (e ∙ read_written room text b os w l))

-- a book by its lines 1 to 3: a fault there, or the orders after them
pub read_fault : (room : ℕ) (text now : List ℕ) (f : Fault) (r : Result Book Fault) → IsErrAnd r (λ y. y ≡ f) → now ≡ [] → top text ≡ Err f → ◌≡◌ {A = Outcome} (now, r) (read room text)
unfolding read
read_fault room text now f (Ok b) p n e = absurd p
read_fault room text now f (Err y) p n e = ap₂ (λ (l : List ℕ) (z : Fault). (l, Err z)) n p ∙ ap (reads_on room) (sym e)

pub read_rows : (room : ℕ) (text : List ℕ) (b : Book) (rest : List ℕ) → top text ≡ Ok (b, rest) → rows (length rest) b room [] rest ≡ read room text
unfolding read
read_rows room text b rest e = ap (reads_on room) (sym e)
