-- What stands at the places of a list, and a search that goes through them. Assumes nothing.
use Rattle.std.proofs.Common.{◌≡◌, ℕ, ◌+◌, ◌-◌, ◌<◌, ◌≤◌, List, [], ◌∷◌, ◌++◌, length, take, drop, set, append_assoc, append-nil, add-one, Some, None, MatchOption, Option, sym, refl, ap, ◌∙◌, ⊎_elim, arith, Bor}
use Rattle.std.specs.List.{slice_get, AllWithin, HoldsAt}
use Rattle.std.specs.Option.{option_map}
use Rattle.std.specs.Slice.{IsGetResult}
use Rattle.std.proofs.lemmas.Option.{slice_get_read, slice_get_past, get_or_from_slice_get}
use Rattle.std.proofs.lemmas.Bool.{cases_lt}
use Rattle.lists.specs.declared.filled.Filled.{Filled}
use Rattle.lists.specs.Items.{items_of, room_of, laid, Grown, Extended, Found}
use borrow.Rule.Slice.PartMut.{put_mid}
use Rattle.std.proofs.lemmas.List.{set_split, take_at, drop_at, drop-drop, length-append, length-take-le, length-drop, take-append-drop}

module _ {X : Type 0} where
  -- the first place that has x, as `position` finds it, or none
  pub found_first : (xs : List X) (x : X) (r : Option ℕ) →
      MatchOption r (AllWithin (λ y. y ≡ x → ⊥) xs 0 (length xs)) (λ i. (i < length xs) × HoldsAt (λ y. y ≡ x) xs i × AllWithin (λ y. y ≡ x → ⊥) xs 0 i) → Found xs x r
  found_first xs x None none = λ place e. none_at place e
    where
      none_at : (place : ℕ) → slice_get xs place ≡ Some x → ⊥
      none_at place e = ⊎_elim
          (λ l. none place x (omega arith) l (get_or_from_slice_get xs place x x e))
          (λ h. let end = slice_get_past xs place h in let z : ◌≡◌ {A = ℕ} 0 1 = cc in omega arith)
          (cases_lt place (length xs))
  found_first xs x (Some i) h = slice_get_read xs (length xs) i x refl h.0 (sym (h.1 x))

  -- the record that was lent from a place, copied
  pub got : (xs : List X) (i : ℕ) (r : Option (Bor X)) → IsGetResult xs i i r → option_map (λ x. x.now) r ≡ slice_get xs i
  got xs i None h = sym (slice_get_past xs i h.3)
  got xs i (Some x) h = sym (slice_get_read xs (length xs) i x.now refl h.3.0 (h.3.1 x.now))

  nth_push : (xs : List X) (x : X) → slice_get (xs ++ x ∷ []) (length xs) ≡ Some x
  nth_push [] x = refl
  nth_push (y ∷ xs) x = nth_push xs x

  -- an added record is at its place
  module _ (before after : Filled X) (x : X) (place : ℕ) (grown : Grown before after x place) where
    pub grown_there : slice_get (items_of after) place ≡ Some x
    grown_there = ap (λ xs. slice_get xs place) grown.items ∙ ap (slice_get (items_of before ++ x ∷ [])) grown.last ∙ nth_push (items_of before) x

  -- what is written into a part of the memory
  pub laid_part : (p part xs : List X) (at : ℕ) → part ≡ xs → put_mid at ((at + length xs) - at) p part ≡ laid p at xs
  laid_part p part xs at e =
      let size : (at + length xs) - at ≡ length xs = omega arith in
      (λ i. take at p ++ (e i ++ drop (size i) (drop at p))) ∙ ap (λ l. take at p ++ (xs ++ l)) (drop-drop (length xs) at p)

  -- laid records stand behind what was before them
  module _ (p : List X) (at : ℕ) (xs : List X) (fits : at + length xs ≤ length p) where
    laid_joined : laid p at xs ≡ (take at p ++ xs) ++ drop (at + length xs) p
    laid_joined = sym (append_assoc (take at p) xs (drop (at + length xs) p))

    front_length : length (take at p ++ xs) ≡ at + length xs
    front_length = length-append (take at p) xs ∙ ap (λ n. n + length xs) (length-take-le at p (omega arith))

    pub laid_front : take (at + length xs) (laid p at xs) ≡ take at p ++ xs
    laid_front = ap (take (at + length xs)) laid_joined ∙ take_at (take at p ++ xs) (drop (at + length xs) p) (at + length xs) front_length

    pub length_laid : length (laid p at xs) ≡ length p
    length_laid =
        ap length laid_joined ∙ length-append (take at p ++ xs) (drop (at + length xs) p)
        ∙ omega (arith, front_length, length-drop (at + length xs) p)

    -- more records after the first
    pub laid_more : (ys : List X) → laid (laid p at xs) (at + length xs) ys ≡ laid p at (xs ++ ys)
    laid_more ys =
        let e = at + length xs in
        let D = drop e p in
        let back : drop e (laid p at xs) ≡ D = ap (drop e) laid_joined ∙ drop_at (take at p ++ xs) D e front_length in
        let size : at + length xs + length ys ≡ at + length (xs ++ ys) = omega (arith, length-append xs ys) in
        let rest : drop (e + length ys) (laid p at xs) ≡ drop (at + length (xs ++ ys)) p =
        sym (drop-drop (length ys) e (laid p at xs)) ∙ ap (drop (length ys)) back ∙ drop-drop (length ys) e p ∙ ap (λ n. drop n p) size in
        (λ i. laid_front i ++ (ys ++ rest i))
        ∙ append_assoc (take at p) xs (ys ++ drop (at + length (xs ++ ys)) p)
        ∙ ap (λ l. take at p ++ l) (sym (append_assoc xs ys (drop (at + length (xs ++ ys)) p)))

  -- one list added after another
  pub extended_then : (a b c : Filled X) (xs ys : List X) → Extended a b xs → Extended b c ys → Extended a c (xs ++ ys)
  extended_then a b c xs ys one two =
      let at = length (items_of a) in
      let moved : length (items_of b) ≡ at + length xs = ap length one.items ∙ length-append (items_of a) xs in
      let long : length (room_of b) ≡ length (room_of a) = ap length one.room ∙ length_laid (room_of a) at xs one.free in
      record {
        free = omega (arith, length-append xs ys, two.free, moved, long);
        items = two.items ∙ ap (λ l. l ++ ys) one.items ∙ append_assoc (items_of a) xs ys;
        room = two.room ∙ (λ i. laid (one.room i) (moved i) ys) ∙ laid_more (room_of a) at xs one.free ys;
      }

  -- one record added is a list of one
  pub extended_one : (a b : Filled X) (x : X) (place : ℕ) → Grown a b x place → Extended a b (x ∷ [])
  extended_one a b x place grown = record {
    free = omega (arith, grown.free);
    items = grown.items;
    room = grown.room ∙ ap (λ n. set (room_of a) n x) grown.last ∙ set_split (room_of a) (length (items_of a)) x grown.free
        ∙ ap (λ n. take (length (items_of a)) (room_of a) ++ (x ∷ drop n (room_of a))) (sym (add-one (length (items_of a))));
  }

  -- and nothing added leaves all as it was
  pub extended_none : (a : Filled X) → Extended a a []
  extended_none a =
      let at = length (items_of a) in
      let same : at + 0 ≡ at = omega arith in
      record {
        free = omega (arith, length-take-le a.len a.room.now a.within, a.within);
        items = sym (append-nil (items_of a));
        room = sym (ap (λ n. take at (room_of a) ++ drop n (room_of a)) same ∙ take-append-drop at (room_of a));
      }

  -- the room stays as long as it was
  pub extended_room : (a b : Filled X) (xs : List X) → Extended a b xs → length (room_of b) ≡ length (room_of a)
  extended_room a b xs one = ap length one.room ∙ length_laid (room_of a) (length (items_of a)) xs one.free

  pub extended_length : (a b : Filled X) (xs : List X) → Extended a b xs → length (items_of b) ≡ length (items_of a) + length xs
  extended_length a b xs one = ap length one.items ∙ length-append (items_of a) xs
