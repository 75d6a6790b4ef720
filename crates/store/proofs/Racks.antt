-- What pegs have, as the table grows. Assumes nothing.
use Rattle.std.proofs.Common.{◌≡◌, ℕ, zero, suc, ◌<◌, Bool, true, false, ◌&&◌, eqb, ltb, ◌⊎◌, List, [], ◌∷◌, get_or, set, replicate, Some, None, Ok, Err, Option, sym, refl, ◌∙◌, inl, inr, arith}
use Rattle.std.proofs.lemmas.Bool.Decides.{nat_tests}
use Rattle.std.specs.Option.{ok_or}
use Rattle.orders.specs.declared.refusal.Refusal.TheVariants.{NoSuchHold}
use Rattle.diagrams.specs.declared.Node.{Node}
use Rattle.diagrams.specs.Table.{Exists, Extends}
use Rattle.sweeps.specs.Reaching.{Pegs as Pegged}
use Rattle.store.specs.Views.{View, Pegs}
use Rattle.store.specs.Questions.{peg_asked, on_peg, held_on}

abbrev pub unpegged : Option ℕ
unpegged = None

get_or_none : (k q : ℕ) → get_or (replicate k unpegged) q None ≡ None
get_or_none zero q = refl
get_or_none (suc k) zero = refl
get_or_none (suc k) (suc q) = get_or_none k q

-- empty pegs have nothing
pub none_pegged : (N : List Node) (k : ℕ) → Pegged N (replicate k unpegged)
none_pegged N k q n e = let z : ◌≡◌ {A = ℕ} 0 1 = cc (get_or_none k q) in absurd (omega arith)

-- what was there is there in a longer table
pub pegged_more : (N M : List Node) (P : Pegs) → Extends N M → Pegged N P → Pegged M P
pegged_more N M P x held q n e = omega (arith, held q n e, x.longer)

set_or : (P : Pegs) (p q : ℕ) (v : Option ℕ) → (get_or (set P p v) q None ≡ v) ⊎ (get_or (set P p v) q None ≡ get_or P q None)
set_or [] p q v = inr refl
set_or (o ∷ P) zero zero v = inl refl
set_or (o ∷ P) zero (suc q) v = inr refl
set_or (o ∷ P) (suc p) zero v = inr refl
set_or (o ∷ P) (suc p) (suc q) v = set_or P p q v

-- a peg is filled with a number that exists, or emptied
pub pegged_set : (N : List Node) (P : Pegs) (p : ℕ) (v : Option ℕ) → Pegged N P → ((n : ℕ) → v ≡ Some n → Exists N n) → Pegged N (set P p v)
pegged_set N P p v held there q n e = elim (set_or P p q v) [ inl h ↦ there n (sym h ∙ e) | inr h ↦ held q n (sym h ∙ e) ]

pub none_there : (N : List Node) (n : ℕ) → unpegged ≡ Some n → Exists N n
none_there N n e = let z : ◌≡◌ {A = ℕ} 0 1 = cc in absurd (omega arith)

pub some_there : (N : List Node) (m n : ℕ) → Exists N m → Some m ≡ Some n → Exists N n
some_there N m n h e = let z : m ≡ n = cc in omega arith

-- the questions of pegs and holds, taken apart
pub peg_fine : (w : View) (p : ℕ) → peg_asked w p ≡ None → p < 64
unfolding peg_asked
peg_fine w p e = grind (arith, nat_tests)

on_peg_true : (b : Bool) (o : Option ℕ) (n : ℕ) → Ok n ≡ on_peg b o → b ≡ true
on_peg_true true o n e = refl
on_peg_true false o n e = let z : ◌≡◌ {A = ℕ} 0 1 = cc in absurd (omega arith)

pub held_fine : (w : View) (mark peg n : ℕ) → Ok n ≡ held_on w mark peg → peg < 64
unfolding held_on
held_fine w mark peg n e = let t = on_peg_true (eqb mark w.plan.mark && ltb peg 64) (get_or w.pegs peg None) n e in grind (arith, nat_tests)

pub held_some : (w : View) (mark peg n : ℕ) → mark ≡ w.plan.mark → peg < 64 → get_or w.pegs peg None ≡ Some n → Ok n ≡ held_on w mark peg
unfolding held_on
held_some w mark peg n e h f = let t : eqb mark w.plan.mark && ltb peg 64 ≡ true = grind (arith, nat_tests) in rw (t, f) refl

pub held_none : (w : View) (mark peg : ℕ) → mark ≡ w.plan.mark → peg < 64 → get_or w.pegs peg None ≡ None → Err NoSuchHold ≡ held_on w mark peg
unfolding held_on
held_none w mark peg e h f = let t : eqb mark w.plan.mark && ltb peg 64 ≡ true = grind (arith, nat_tests) in rw (t, f) refl

-- what is on the peg, once the hold's numbers are the store's
pub held_ok : (w : View) (mark peg : ℕ) → mark ≡ w.plan.mark → peg < 64 → ok_or (get_or w.pegs peg None) NoSuchHold ≡ held_on w mark peg
held_ok w mark peg e h = by (get_or w.pegs peg None) refl
  where
    by : (o : Option ℕ) → get_or w.pegs peg None ≡ o → ok_or (get_or w.pegs peg None) NoSuchHold ≡ held_on w mark peg
    by (Some n) f = rw f (held_some w mark peg n e h f)
    by None f = rw f (held_none w mark peg e h f)
