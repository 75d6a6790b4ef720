-- A row of numbers and the same row as places. Assumes nothing.
use Rattle.std.proofs.Common.{◌≡◌, ℕ, ◌<◌, ◌≤◌, List, length, get_or, sym, ◌∙◌, subst, arith, length-take-le, get_or-take, le-ltb, lt-ltb}
use native.Mathlib.Decide.{dec_lt}
use Rattle.orders.specs.Entries.{Writes, Refused}
use Rattle.orders.specs.declared.order.Order.{Order}
use Rattle.orders.specs.declared.refusal.Refusal.{Refusal}
use Rattle.lines.specs.declared.numbers.Fields.{Fields}
use Rattle.lines.specs.Held.{held, place_of}

place_in : (v : ℕ) → v ≤ 16 → place_of v ≡ v
place_in v h = rw (le-ltb 16 v h)

place_back : (v : ℕ) → 1 ≤ place_of v → place_of v ≡ v
place_back v h = elim (dec_lt 16 v) [
  | yes l ↦ let z : place_of v ≡ 0 = rw (lt-ltb 16 v l) in absurd (omega arith)
  | no l ↦ place_in v (omega (arith, l))
]

writes_same : (a b : List ℕ) (len : ℕ) (o : Order) → ((j : ℕ) → j < len → get_or a j 0 ≡ get_or b j 0) → Writes a len o → Writes b len o
writes_same a b len o same w = record {
  some = w.some;
  few = w.few;
  within = λ j h. omega (arith, same j h, w.within j h);
  once = λ i j hi hj e. w.once i j hi hj (same i hi ∙ e ∙ sym (same j hj));
  held = λ v l h. let k = w.held v l h in (k.0, k.1, sym (same k.0 k.1) ∙ k.2);
  places = λ j h. w.places j h ∙ same j h;
  rest = w.rest;
}

module _ (f : Fields) (places : List ℕ) (each : (j : ℕ) → j < f.count → get_or places j 0 ≡ place_of (get_or f.values j 0)) where
  long : length (held f) ≡ f.count
  long = length-take-le f.count f.values (omega (arith, f.few, f.long))

  at : (j : ℕ) → j < f.count → get_or (held f) j 0 ≡ get_or f.values j 0
  at j h = get_or-take f.count f.values j 0 h

  pub writes_held : (o : Order) → Writes places f.count o → Writes (held f) (length (held f)) o
  writes_held o w =
      subst (λ n. Writes (held f) n o) (sym long)
      (writes_same places (held f) f.count o
      (λ j h. each j h ∙ place_back (get_or f.values j 0) (omega (arith, each j h, w.within j h)) ∙ sym (at j h)) w)

  pub refused_held : (e : Refusal) → Refused places f.count e → Refused (held f) (length (held f)) e
  refused_held e r = record {
    why = r.why;
    none = λ o w. let v : Writes (held f) f.count o = subst (λ n. Writes (held f) n o) long w in
        r.none o (writes_same (held f) places f.count o (λ j h. at j h ∙ sym (each j h ∙ place_in (get_or f.values j 0) (omega (arith, at j h, v.within j h, v.few)))) v);
  }
