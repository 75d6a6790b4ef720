-- What writing comes to, by the questions of the handle.
use Rattle.std.proofs.Common.{◌≡◌, ℕ, List, IsErrAnd, Some, None, Ok, Err, Option, Result, refl, ap, arith}
use Rattle.orders.specs.declared.refusal.Refusal.{Refusal}
use Rattle.lines.specs.Pages.{Put}
use Rattle.diagrams.specs.declared.Node.{Node}
use Rattle.diagrams.specs.Table.{count_of}
use Rattle.lists.specs.declared.node_line.NodeLine.{NodeLine}
use Rattle.forms.specs.Walks.{sheet_of}
use Rattle.sheets.specs.Format.{sheet_bytes}
use Rattle.store.specs.declared.shapes.Handle.{Handle}
use Rattle.store.specs.Views.{View}
use Rattle.store.specs.Questions.{answered, handle_asked}
use Rattle.deposits.specs.Writing.{sheet_text, Writes}

-- a question that got a no
pub asked_no : {A : Type 0} (a : Option Refusal) (v : A) (e : Refusal) → Err e ≡ answered a v → a ≡ Some e
asked_no None v e h = let z : ◌≡◌ {A = ℕ} 1 0 = cc in absurd (omega arith)
asked_no (Some x) v e h = cc

pub writes_no : (chain : ℕ) (w : View) (h : Handle) (page : List ℕ) (e : Refusal) → handle_asked w h ≡ Some e → Writes chain w h page page (Err e)
unfolding Writes
writes_no chain w h page e q = rw q (refl, refl)

pub writes_yes : (chain : ℕ) (w : View) (h : Handle) (before after : List ℕ) (r : Result ℕ Refusal) → handle_asked w h ≡ None → Put before after 0 (sheet_text chain w.nodes h.number) r → Writes chain w h before after r
unfolding Writes
writes_yes chain w h before after r q p = rw q p

-- a refusal that is passed on
pub refusal_is : {A : Type 0} (e : Refusal) (r : Result A Refusal) → IsErrAnd r (λ y. y ≡ e) → r ≡ Err e
refusal_is e (Ok a) h = absurd h
refusal_is e (Err y) h = ap Err h

-- the bytes that were written are the sheet of the set
pub text_is : (chain : ℕ) (N : List Node) (n : ℕ) (code orders : ℕ) (ls : List NodeLine) → code ≡ chain → orders ≡ count_of N n → ls ≡ (sheet_of N n).lines → sheet_bytes code orders ls ≡ sheet_text chain N n
unfolding sheet_text
text_is chain N n code orders ls c o l = rw (c, o, l) refl
