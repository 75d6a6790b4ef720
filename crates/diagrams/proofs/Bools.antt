-- Truth values. Assumes nothing.
use Rattle.std.proofs.Common.{◌≡◌, Bool, true, false, not, ◌&&◌, ◌||◌, ◌⊎◌, ◌↔◌, sym, refl, inl, inr}
use mathlib.Core.Bool.{false≢true}

pub or_split : (a b : Bool) → (a || b) ≡ true → (a ≡ true) ⊎ (b ≡ true)
or_split true b h = inl refl
or_split false b h = inr h

pub or_left : (a b : Bool) → a ≡ true → (a || b) ≡ true
or_left true b h = refl
or_left false b h = absurd (false≢true h)

pub or_right : (a b : Bool) → b ≡ true → (a || b) ≡ true
or_right true b h = refl
or_right false b h = h

-- two truth values that follow from one another
pub both_ways : (a b : Bool) → (a ≡ true → b ≡ true) → (b ≡ true → a ≡ true) → a ≡ b
both_ways true b f g = sym (f refl)
both_ways false true f g = g refl
both_ways false false f g = refl

pub or_none : (a b : Bool) → (a || b) ≡ false → (a ≡ false) × (b ≡ false)
or_none true b h = absurd (false≢true (sym h))
or_none false b h = (refl, h)

pub and_self : (p : Bool) → p ≡ (p && p)
and_self true = refl
and_self false = refl

pub and_none : (p : Bool) → false ≡ (p && false)
and_none true = refl
and_none false = refl

pub and_all : (p : Bool) → p ≡ (p && true)
and_all true = refl
and_all false = refl

pub and_other : (p : Bool) → false ≡ (p && not p)
and_other true = refl
and_other false = refl

pub and_or : (p q t : Bool) → ((p && t) || (q && t)) ≡ ((p || q) && t)
and_or true q true = refl
and_or true true false = refl
and_or true false false = refl
and_or false q t = refl

pub and_if : (p q : Bool) → (p ≡ true → q ≡ true) → p ≡ (p && q)
and_if true q f = sym (f refl)
and_if false q f = refl

pub and_not : (p q : Bool) → (p ≡ true → q ≡ false) → false ≡ (p && q)
and_not true q f = sym (f refl)
and_not false q f = refl

pub and_is : (p q : Bool) → ((p && q) ≡ true) ↔ ((p ≡ true) × (q ≡ true))
and_is true q = (λ h. (refl, h), λ h. h.1)
and_is false q = (λ h. absurd (false≢true h), λ h. h.0)

pub not_is : (q : Bool) → (not q ≡ true) ↔ (q ≡ true → ⊥)
not_is true = (λ h. absurd (false≢true h), λ h. absurd (h refl))
not_is false = (λ h k. false≢true k, λ h. refl)

pub or_either : (p q : Bool) → (p ≡ true) ⊎ (q ≡ true) → (p || q) ≡ true
or_either p q (inl e) = or_left p q e
or_either p q (inr e) = or_right p q e
