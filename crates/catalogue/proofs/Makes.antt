-- One request, as the call that it makes. Assumes nothing.
use Rattle.std.proofs.Common.{◌≡◌, ℕ, ◌+◌, ◌-◌, ◌^◌, ◌<◌, ◌≤◌, min, Bool, true, false, leb, List, [], ◌∷◌, ◌++◌, length, get_or, take, drop, set, Some, None, Ok, Err, Option, Result, sym, refl, ap, ◌∙◌, subst, arith, length-append, le-leb}
use borrow.Author.Tests.{lt-leb}
use Rattle.std.proofs.lemmas.Bool.Decides.{nat_tests}
use Rattle.orders.specs.declared.refusal.Refusal.{Refusal}
use Rattle.orders.specs.declared.refusal.Refusal.TheVariants.{NoSuchHold}
use Rattle.orders.specs.declared.chain.Chain as chain
use Rattle.caches.specs.declared.Cache as cache
use Rattle.lists.specs.declared.node_line.NodeLine.{NodeLine}
use Rattle.diagrams.specs.declared.Node.{Node}
use Rattle.diagrams.specs.Moves.{Moves}
use Rattle.diagrams.specs.Rules.{Outcome, done, full, node}
use Rattle.diagrams.specs.Work.{task}
use Rattle.forms.specs.Marks.{taken}
use Rattle.sheets.specs.declared.fault.Fault.{Fault}
use Rattle.sheets.specs.declared.checking.Checked.{Checked}
use Rattle.sheets.specs.Checks as checks
use Rattle.sheets.specs.Checks.{checked}
use Rattle.store.specs.declared.hold.Hold.{Hold}
use Rattle.store.specs.declared.shapes.Handle.{Handle}
use Rattle.store.specs.declared.shapes.SetCall.{SetCall}
use Rattle.store.specs.declared.store.Store.{Store}
use Rattle.store.specs.Views.{View, view, room_of, with_nodes, with_pegs}
use Rattle.store.specs.Questions.{answered, or_else, handle_asked, order_asked, spot_asked, call_asked, task_of}
use Rattle.store.specs.Steps as store
use Rattle.store.specs.Steps.{sets, adds, holds, releases, held, released, released_by, sweep, declined, worked, unless, node_asked, season_asked, entries_if, entries_in, swept_view, left}
use Rattle.store.specs.Does as StoreDoes
use Rattle.store.specs.Does.{handle_reply}
use Rattle.deposits.specs.Writing.{sheet_text, WritesIf, Writes}
use Rattle.deposits.specs.Reading as deposits
use Rattle.deposits.specs.Reading.{Entry, enters_by, enters, rooted, reads_by}
use Rattle.catalogue.specs.declared.request.Name.{Name}
use Rattle.catalogue.specs.declared.request.Claim.{Claim}
use Rattle.catalogue.specs.Requests.{Asked}
use Rattle.store.specs.declared.shapes.SetCall.TheVariants.{Single, Join, Meet, Without, Carry, Follow, Pick}
use Rattle.catalogue.specs.Calls.{stores, reads, looks, Look, Reply, stored, read, look, as_stored, as_read, sheet_on, fits_on}
use Rattle.catalogue.specs.Runs.{Does}
use Rattle.catalogue.specs.Requests.{set_call, spot_fits, names_asked, handle_named, hold_named}
use Rattle.catalogue.specs.Racks.{Slots, Racked, Lacks, Took, hold_on}
use Rattle.catalogue.specs.Serves.{Holds, Releases}
use Rattle.catalogue.proofs.Slots.{some_within}
use Rattle.catalogue.proofs.Racking.{racked_same, racked_swept, racked_set, racked_held, racked_lacks, given, taken_back}

module _ {G C : Type 0} {cg : chain.Ghosts G} {cc : cache.Ghosts C} where
  -- one of the store's own calls
  pub stored_does : {s t : Store G C cg cc} {call : store.Call} {reply : store.Reply} {n : ℕ} → StoreDoes.Does s call t reply n → Does s (stores call) t (stored reply) n
  stored_does d = record { after = ap as_stored d.after; most = d.most; just = d.just }

  -- a sheet is read
  pub read_does : {s t : Store G C cg cc} {text : List ℕ} {r : Result Handle Fault} → ◌≡◌ {A = View × Result Handle Fault} (view t, r) (deposits.reads cg.CODE (view s) text)
      → Does s (reads text) t (read r) 0
  read_does e = record { after = ap as_read e; most = omega arith; just = λ f. refl }

  -- nothing changes
  pub look_does : (s : Store G C cg cc) (l : Look) (reply : Reply) → reply ≡ look cg.CODE cg.table (view s) l → Does s (looks l) s reply 0
  look_does s l reply e = record { after = ap (λ (r : Reply). (view s, r)) e; most = omega arith; just = λ f. refl }

-- a piece or a place above 16 is not within the store's pieces
spot_no : (w : View) (k p : ℕ) (e : Refusal) → spot_fits k p ≡ Some e → spot_asked w k p ≡ Some e
unfolding spot_fits spot_asked
spot_no w k p e h = let most = w.plan.most in grind (arith, nat_tests)

pick_no : (w : View) (o : Option Refusal) (k p : ℕ) (e : Refusal) → or_else o (spot_fits k p) ≡ Some e → or_else o (spot_asked w k p) ≡ Some e
pick_no w None k p e h = spot_no w k p e h
pick_no w (Some x) k p e h = h

carry_no : (o q : Option Refusal) (e : Refusal) → o ≡ Some e → or_else o q ≡ Some e
carry_no None q e h = let z : ◌≡◌ {A = ℕ} 0 1 = cc in absurd (omega arith)
carry_no (Some x) q e h = h

-- what is declined as it is named is declined so by the call
pub names_no : (w : View) (a : Asked) (e : Refusal) → names_asked w a ≡ Some e → call_asked w (set_call a) ≡ Some e
names_no w (Single o) e h = let z : ◌≡◌ {A = ℕ} 0 1 = cc in absurd (omega arith)
names_no w (Join a b) e h = h
names_no w (Meet a b) e h = h
names_no w (Without a b) e h = h
names_no w (Carry a o) e h = carry_no (handle_asked w (handle_named a)) (order_asked w o) e h
names_no w (Follow a b) e h = h
names_no w (Pick a k p) e h = pick_no w (handle_asked w (handle_named a)) k p e h

-- a call that a question declines leaves the store as it was
pub declined_does : {G C : Type 0} {cg : chain.Ghosts G} {cc : cache.Ghosts C} (s : Store G C cg cc) (call : SetCall Handle ℕ) (e : Refusal) → call_asked (view s) call ≡ Some e → StoreDoes.Does s (sets call) s (declined e) 0
declined_does {cg = cg} s call e h =
    let w = view s in
    let o = task cg.table (room_of w) w.nodes (task_of call) in
    record {
      after = sym (ap (λ q. unless q w (worked w o)) h);
      most = omega arith;
      just = λ f. sym (ap (λ q. min (entries_if q (entries_in o)) (2 ^ 64 - 1)) h);
    }

-- calls that leave the pegs as they are
pub record Same (w v : View) : Type 0 where
  pub pegs : v.pegs ≡ w.pegs
  pub plan : v.plan ≡ w.plan

worked_same : (w : View) (o : Outcome) → Same w (worked w o).0
worked_same w (done N r n) = record { pegs = refl; plan = refl }
worked_same w (full N) = record { pegs = refl; plan = refl }

unless_same : (q : Option Refusal) (w : View) (o : Outcome) → Same w (unless q w (worked w o)).0
unless_same None w o = worked_same w o
unless_same (Some e) w o = record { pegs = refl; plan = refl }

entered_by : (w : View) (k : ℕ) (q : Option Refusal) (o : Outcome) (go : View → ℕ → Entry) → ((N : List Node) (r : ℕ) → Same (with_nodes w N) (go (with_nodes w N) r).0) → Same w (enters_by w k q o go).0
entered_by w k (Some e) o go h = record { pegs = refl; plan = refl }
entered_by w k None (done N r n) go h = record { pegs = (h N r).pegs; plan = (h N r).plan }
entered_by w k None (full N) go h = record { pegs = refl; plan = refl }

entered : (w : View) (rs : List ℕ) (ls : List NodeLine) → Same w (enters w rs ls).0
unfolding enters
entered w rs [] = record { pegs = refl; plan = refl }
entered w rs (a ∷ ls) =
    entered_by w (length rs + 4)
    (node_asked w a.x a.y (taken rs a.lo) (taken rs a.hi))
    (node (room_of w) w.nodes a.x a.y (taken rs a.lo) (taken rs a.hi) 0)
    (λ v r. enters v (rs ++ (r ∷ [])) ls)
    (λ N r. entered (with_nodes w N) (rs ++ (r ∷ [])) ls)

rooted_same : (w : View) (root : ℕ) (e : Entry) → Same w e.0 → Same w (rooted root e).0
rooted_same w root (v, Ok rs) h = h
rooted_same w root (v, Err f) h = h

read_by : (w : View) (o : checks.Outcome Checked) → Same w (reads_by w o).0
read_by w (ls, Ok c) = rooted_same w c.root (enters w [] ls) (entered w [] ls)
read_by w (ls, Err f) = record { pegs = refl; plan = refl }

read_same : (code : ℕ) (w : View) (text : List ℕ) → Same w (deposits.reads code w text).0
unfolding deposits.reads
read_same code w text = read_by w (checked w.plan.pieces code text)

-- the holds in hand are still the store's
module _ (g : Moves) (w t : View) (R : Slots) (k : Racked w R) where
  after_same : {v : View} → Same w v → t ≡ v → Racked t R
  after_same h e = racked_same w t R (ap (λ (x : View). x.pegs) e ∙ h.pegs) (ap (λ (x : View). x.plan) e ∙ h.plan) k

  pub after_sets : (call : SetCall Handle ℕ) {r : store.Reply} → ◌≡◌ {A = store.After} (t, r) (store.step g w (sets call)) → Racked t R
  after_sets call e = after_same (unless_same (call_asked w call) w (task g (room_of w) w.nodes (task_of call))) (ap (λ (a : store.After). a.0) e)

  pub after_adds : (x y lo hi : ℕ) {r : store.Reply} → ◌≡◌ {A = store.After} (t, r) (store.step g w (adds x y lo hi)) → Racked t R
  after_adds x y lo hi e = after_same (unless_same (node_asked w x y lo hi) w (node (room_of w) w.nodes x y lo hi 0)) (ap (λ (a : store.After). a.0) e)

  pub after_reads : (code : ℕ) (text : List ℕ) {r : Result Handle Fault} → ◌≡◌ {A = View × Result Handle Fault} (t, r) (deposits.reads code w text) → Racked t R
  after_reads code text e = after_same (read_same code w text) (ap (λ (a : View × Result Handle Fault). a.0) e)

  swept_by : (q : Option Refusal) {r : store.Reply} → ◌≡◌ {A = store.After} (t, r) (unless q w (swept_view w, left (length (swept_view w).nodes))) → Racked t R
  swept_by None e = subst (λ (v : View). Racked v R) (sym (ap (λ (a : store.After). a.0) e)) (racked_swept w R k)
  swept_by (Some x) e = subst (λ (v : View). Racked v R) (sym (ap (λ (a : store.After). a.0) e)) k

  pub after_sweep : {r : store.Reply} → ◌≡◌ {A = store.After} (t, r) (store.step g w sweep) → Racked t R
  after_sweep e = swept_by (season_asked w) e

-- the bytes of a sheet on its page
take_front : (a b : List ℕ) → take (length a) (a ++ b) ≡ a
take_front [] b = refl
take_front (x ∷ a) b = ap (λ (l : List ℕ). x ∷ l) (take_front a b)

module _ (code : ℕ) (w : View) (h : Handle) (before after : List ℕ) where
  text : List ℕ
  text = sheet_text code w.nodes h.number

  -- once the handle is accepted, the page decides
  sheet_by : (b : Bool) → leb (length text) (length before) ≡ b → fits_on b text ≡ sheet_on None text (length before)
  sheet_by b e = ap (λ c. fits_on c text) (sym e)

  fits_by : (o : Option Refusal) (end : ℕ) → WritesIf o text before after (Ok end) → (end ≤ length after) × (Ok (take end after) ≡ sheet_on o text (length before))
  fits_by (Some e) end p = cc
  fits_by None end s =
      let rest = drop (0 + length text) before in
      let page : after ≡ text ++ rest = s.page in
      let at : end ≡ length text = omega (arith, s.ends) in
      let bytes : take end after ≡ text = ap (λ n. take n after) at ∙ ap (take (length text)) page ∙ take_front text rest in
      (omega (arith, at, ap length page, length-append text rest), ap Ok bytes ∙ sheet_by true (le-leb (length text) (length before) (omega (arith, s.room))))

  short_by : (o : Option Refusal) (e : Refusal) → WritesIf o text before after (Err e) → Err e ≡ sheet_on o text (length before)
  short_by (Some x) e p = let why = p.0 in let same : e ≡ x = cc in ap Err same
  short_by None e s = ap Err s.number ∙ sheet_by false (lt-leb (length text) (length before) (omega (arith, s.room)))

  -- a handle that is not accepted
  pub sheet_declined : {A : Type 0} (v : A) (e : Refusal) (r : Result ℕ Refusal) → Err e ≡ answered (handle_asked w h) v → r ≡ Err e → Writes code w h before before r
  unfolding Writes
  sheet_declined v e r was is = by (handle_asked w h) was
    where
      by : (o : Option Refusal) → Err e ≡ answered o v → WritesIf o (sheet_text code w.nodes h.number) before before r
      by None q = cc
      by (Some x) q = let same : e ≡ x = cc in (is ∙ ap Err same, refl)

  pub sheet_fits : (end : ℕ) → Writes code w h before after (Ok end) → (end ≤ length after) × (Ok (take end after) ≡ sheet_on (handle_asked w h) (sheet_text code w.nodes h.number) (length before))
  unfolding Writes text
  sheet_fits end p = fits_by (handle_asked w h) end p

  pub sheet_short : (e : Refusal) → Writes code w h before after (Err e) → Err e ≡ sheet_on (handle_asked w h) (sheet_text code w.nodes h.number) (length before)
  unfolding Writes text
  sheet_short e p = short_by (handle_asked w h) e p

-- a hold that is in hand is given back
module _ {G C : Type 0} {cg : chain.Ghosts G} {cc : cache.Ghosts C} (s t : Store G C cg cc) (R R' : Slots) (c : Claim) (k : Racked (view s) R) where
  module _ (d : Hold) (took : Took R R' c d) (does : StoreDoes.Does s (releases d) t released 0) where
    there : get_or R c.peg None ≡ Some (hold_named c)
    there = took.there ∙ ap Some took.hold

    pub released_does : Releases s c t (Ok tt)
    released_does = subst (λ (x : Hold). StoreDoes.Does s (releases x) t released 0) took.hold does

    pub released_racked : length (view s).pegs ≡ 64 → Racked (view t) R'
    released_racked long =
        let w = view s in
        let h = racked_held w R k c there in
        let lt : c.peg < 64 = omega (arith, some_within R c.peg _ there, k.long) in
        let after = taken_back cg.table w (view t) (hold_named c) h.0 h.1 released_does.after in
        subst (λ (v : View). Racked v R') (sym after) (subst (λ (S : Slots). Racked (with_pegs w (set w.pegs c.peg None)) S) (sym took.slots) (racked_set w R k long c.peg lt None))

  -- a hold that is not in hand is declined
  pub returned_does : Lacks R c → Releases s c s (Err (NoSuchHold, c))
  returned_does lacks = record {
    after = sym (ap (released_by (view s) (hold_named c)) (racked_lacks (view s) R k c lacks));
    most = omega arith;
    just = λ f. refl;
  }

-- a set is held, and the hold is in hand
module _ {G C : Type 0} {cg : chain.Ghosts G} {cc : cache.Ghosts C} (s t : Store G C cg cc) (n : Name) (h : Handle) (p : ℕ) (d : Hold) (e : h ≡ handle_named n) (does : StoreDoes.Does s (holds h p) t (held d) 0) where
  pub held_does : (c : Claim) → hold_named c ≡ d → Holds s n p t (Ok c)
  held_does c claim =
      let is : StoreDoes.Does s (holds (handle_named n) p) t (held d) 0 = subst (λ (x : Handle). StoreDoes.Does s (holds x p) t (held d) 0) e does in
      subst (λ (x : Hold). StoreDoes.Does s (holds (handle_named n) p) t (held x) 0) (sym claim) is

  pub held_racked : (R R' : Slots) → length (view s).pegs ≡ 64 → Racked (view s) R → R' ≡ set R p (Some d) → Racked (view t) R'
  held_racked R R' long k slots =
      let w = view s in
      let it = given cg.table w (view t) h p d does.after in
      let into : R' ≡ set R p (hold_on w.plan.mark p (Some h.number)) = slots ∙ ap (λ (x : Hold). set R p (Some x)) it.hold in
      subst (λ (v : View). Racked v R') (sym it.view) (subst (λ (S : Slots). Racked (with_pegs w (set w.pegs p (Some h.number))) S) (sym into) (racked_set w R k long p it.within (Some h.number)))
