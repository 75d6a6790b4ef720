-- What is written on a page. Assumes nothing.
use Rattle.std.proofs.Common.{◌≡◌, ℕ, zero, suc, ◌+◌, ◌*◌, ◌/◌, ◌%◌, ◌^◌, ◌<◌, ◌≤◌, List, [], ◌∷◌, ◌++◌, length, get_or, take, drop, decimal, Ok, Err, Result, MatchResult, ◌⊎◌, inl, inr, subst, sym, refl, ap, ◌∙◌, append_assoc, append-nil, arith}
use Rattle.std.proofs.lemmas.Fmt.{decimal_digit, decimal_step, length-decimal-le}
use Rattle.std.proofs.lemmas.List.{length-append, length_push, take_more, length-take-le, drop-drop, length-drop}
use Rattle.std.specs.Result.{IsErr}
use Rattle.std.proofs.lemmas.Bool.{false≢true}
use Rattle.lists.specs.declared.filled.Filled.{Filled}
use Rattle.lists.specs.Items.{items_of, room_of, laid, Added, Extended}
use Rattle.lists.proofs.Places.{extended_one, extended_length}
use Rattle.lines.specs.Format.{more, written, line}
use Rattle.lines.specs.Pages.{Stands}
use Rattle.orders.specs.declared.refusal.Refusal.{Refusal}

-- what holds where a call failed
pub err_only : (P Q : Type 0) (r : Result (Unit {0}) Refusal) → IsErr r → Q → MatchResult r (λ _. P) (λ _. Q)
err_only P Q (Ok _) e q = absurd (false≢true e)
err_only P Q (Err why) e q = q

-- the digits of a number, and how many there are
pub length_one : (n : ℕ) → n < 10 → length (decimal n) ≡ 1
length_one n h = ap length (decimal_digit n h)

pub length_step : (n : ℕ) → 10 ≤ n → n < 2 ^ 64 → length (decimal n) ≡ length (decimal (n / 10)) + 1
length_step n h k = ap length (decimal_step n h k) ∙ length_push (decimal (n / 10)) (48 + n % 10)

pub length_20 : (n : ℕ) → n < 2 ^ 64 → length (decimal n) ≤ 20
length_20 n h = length-decimal-le 20 n (omega arith) (omega arith) h

-- one byte more at the end
pub length_end : (l ds : List ℕ) (d : ℕ) → l ≡ ds ++ d ∷ [] → length l ≡ length ds + 1
length_end l ds d e = ap length e ∙ length_push ds d

pub length_line : (ns : List ℕ) → length (line ns) ≡ length (written ns) + 1
length_line ns = length-append (written ns) (10 ∷ [])

-- the line is as long as its numbers with a byte for each, or it is its end alone
pub line_long : (ns : List ℕ) → ((length (more ns) ≡ 0) × (length (line ns) ≡ 1)) ⊎ ((1 ≤ length (more ns)) × (length (line ns) ≡ length (more ns)))
line_long [] = inl (refl, refl)
line_long (n ∷ ns) = inr (omega arith, omega (arith, length_line (n ∷ ns)))

-- one number more
pub more_push : (ns : List ℕ) (n : ℕ) → more (ns ++ n ∷ []) ≡ more ns ++ (32 ∷ decimal n)
more_push [] n = ap (λ l. 32 ∷ l) (append-nil (decimal n))
more_push (m ∷ ns) n =
    ap (λ l. 32 ∷ (decimal m ++ l)) (more_push ns n) ∙ ap (λ l. 32 ∷ l) (sym (append_assoc (decimal m) (more ns) (32 ∷ decimal n)))

module _ (ns : List ℕ) (i : ℕ) (h : i < length ns) where
  abbrev here : ℕ
  here = get_or ns i 0

  pub length_more_take : length (more (take (i + 1) ns)) ≡ length (more (take i ns)) + (1 + length (decimal here))
  length_more_take =
      let all = ap (λ l. length (more l)) (take_more ns i 0 h) ∙ ap length (more_push (take i ns) here) in
      omega (arith, all, length-append (more (take i ns)) (32 ∷ decimal here))

-- what stands in front of the number at a place: a blank, but nothing in front of the first
abbrev pub Lead : ℕ → List ℕ → Type 0
Lead i ls = ((i ≡ 0) × (ls ≡ [])) ⊎ ((0 < i) × (ls ≡ 32 ∷ []))

written_push : (ms : List ℕ) (n : ℕ) (ls : List ℕ) → Lead (length ms) ls → written (ms ++ n ∷ []) ≡ written ms ++ (ls ++ decimal n)
written_push [] n ls (inl w) = append-nil (decimal n) ∙ ap (λ l. l ++ decimal n) (sym w.1)
written_push [] n ls (inr w) = absurd (omega (arith, w.0))
written_push (m ∷ ms) n ls (inl w) = absurd (omega (arith, w.0))
written_push (m ∷ ms) n ls (inr w) =
    ap (λ l. decimal m ++ l) (more_push ms n) ∙ sym (append_assoc (decimal m) (more ms) (32 ∷ decimal n))
    ∙ ap (λ l. (decimal m ++ more ms) ++ (l ++ decimal n)) (sym w.1)

pub written_take : (ns : List ℕ) (i : ℕ) → i < length ns → (ls : List ℕ) → Lead i ls → written (take (i + 1) ns) ≡ written (take i ns) ++ (ls ++ decimal (get_or ns i 0))
written_take ns i h ls lead =
    ap written (take_more ns i 0 h)
    ∙ written_push (take i ns) (get_or ns i 0) ls (subst (λ n. Lead n ls) (sym (length-take-le i ns (omega arith))) lead)

more_front : (ns : List ℕ) (i : ℕ) → length (more (take i ns)) ≤ length (more ns)
more_front ns zero = omega arith
more_front [] (suc i) = omega arith
more_front (n ∷ ns) (suc i) = omega (arith, more_front ns i, length-append (decimal n) (more (take i ns)), length-append (decimal n) (more ns))

written_front : (ns : List ℕ) (i : ℕ) → length (written (take i ns)) ≤ length (written ns)
written_front ns zero = omega arith
written_front [] (suc i) = omega arith
written_front (n ∷ ns) (suc i) = omega (arith, more_front ns i, length-append (decimal n) (more (take i ns)), length-append (decimal n) (more ns))

-- the line has at least what is written with the number at a place
pub written_up_to : (ns : List ℕ) (i : ℕ) → i < length ns → (ls : List ℕ) → Lead i ls → length (written (take i ns)) + (length ls + length (decimal (get_or ns i 0))) ≤ length (written ns)
written_up_to ns i h ls lead =
    let all = ap length (written_take ns i h ls lead) in
    omega (arith, all, written_front ns (i + 1), length-append (written (take i ns)) (ls ++ decimal (get_or ns i 0)), length-append ls (decimal (get_or ns i 0)))

more_few : (ns : List ℕ) → ((i : ℕ) → get_or ns i 0 < 2 ^ 64) → length (more ns) ≤ 21 * length ns
more_few [] h = omega arith
more_few (n ∷ ns) h = omega (arith, more_few ns (λ i. h (suc i)), length_20 n (h 0), length-append (decimal n) (more ns))

-- a line of at most 16 numbers fits in 337 bytes
pub line_few : (ns : List ℕ) → ((i : ℕ) → get_or ns i 0 < 2 ^ 64) → length ns ≤ 16 → length (line ns) ≤ 337
line_few ns h few = omega (arith, more_few ns h, line_long ns)

-- a byte that there is room for is added
pub added_one : (a b : Filled ℕ) (x : ℕ) (r : Result ℕ Refusal) → length (items_of a) < length (room_of a) → Added a b x r → Extended a b (x ∷ [])
added_one a b x (Ok place) free h = extended_one a b x place h
added_one a b x (Err why) free h = absurd (omega (arith, h.full))

-- a list over what is behind a place of the page, from none to all of its bytes
pub stands_behind : (p q : List ℕ) (at : ℕ) (a e : Filled ℕ) (bytes : List ℕ) (end : ℕ) → at ≤ length p → items_of a ≡ [] → room_of a ≡ drop at p → Extended a e bytes →
    end ≡ at + length (items_of e) → q ≡ take at p ++ room_of e → Stands p q at bytes end
stands_behind p q at a e bytes end within none behind all long is =
    let start : length (items_of a) ≡ 0 = ap length none in
    let size : 0 + length bytes ≡ length bytes = omega arith in
    record {
      room = omega (arith, start, all.free, ap length behind, length-drop at p);
      ends = omega (arith, start, long, extended_length a e bytes all);
      page = is ∙ ap (λ l. take at p ++ l)
          (all.room ∙ (λ i. laid (behind i) (start i) bytes) ∙ ap (λ n. bytes ++ drop n (drop at p)) size ∙ ap (λ l. bytes ++ l) (drop-drop (length bytes) at p));
    }
