-- One step of the visit. Assumes nothing.
use Rattle.std.proofs.Common.{◌≡◌, ℕ, zero, suc, ◌+◌, ◌-◌, ◌<◌, ◌≤◌, List, [], ◌∷◌, ◌++◌, length, get_or, take, set, sym, refl, ap, ◌∙◌, subst, ap₂, arith, length-take-le, eq-eqb, ne_eqb}
use Rattle.std.proofs.lemmas.List.{take_more_set}
use Rattle.diagrams.specs.declared.Node.{Node}
use Rattle.diagrams.specs.Table.{at}
use Rattle.forms.specs.Marks.{Marks, give, mark_by, mark}

-- 0 and 1 are passed by
pub pass_end : (d : ℕ) (N : List Node) (n : ℕ) (s : Marks) → n < 2 → mark d N n s ≡ s
unfolding mark
pass_end zero N n s h = refl
pass_end (suc d) N zero s h = refl
pass_end (suc d) N (suc zero) s h = refl
pass_end (suc d) N (suc (suc i)) s h = absurd (omega arith)

two_off : (i : ℕ) → suc (suc i) - 2 ≡ i
two_off i = omega arith

-- and so is a node that has a number
pub pass_marked : (d : ℕ) (N : List Node) (n : ℕ) (s : Marks) → (get_or s.marks (n - 2) 0 ≡ 0 → ⊥) → mark d N n s ≡ s
unfolding mark
pass_marked zero N n s h = refl
pass_marked (suc d) N zero s h = refl
pass_marked (suc d) N (suc zero) s h = refl
pass_marked (suc d) N (suc (suc i)) s h =
    let z : get_or s.marks i 0 ≡ 0 → ⊥ = λ e. h (ap (λ k. get_or s.marks k 0) (two_off i) ∙ e) in
    ap (λ t. mark_by t (give i (mark d N (at N i).hi (mark d N (at N i).lo s))) s) (ne_eqb _ _ z)

visit_at : (N : List Node) (i : ℕ) (s a b : Marks) (d : ℕ) → suc (suc i) < suc d → get_or s.marks i 0 ≡ 0 → (at N i).lo < suc (suc i) → (at N i).hi < suc (suc i) →
    ((d : ℕ) → (at N i).lo < d → mark d N (at N i).lo s ≡ a) → ((d : ℕ) → (at N i).hi < d → mark d N (at N i).hi a ≡ b) →
    mark (suc d) N (suc (suc i)) s ≡ give i b
unfolding mark
visit_at N i s a b d l z lo hi e f =
    ap (λ t. mark_by t (give i (mark d N (at N i).hi (mark d N (at N i).lo s))) s) (eq-eqb _ _ z)
    ∙ ap (give i) (ap (mark d N (at N i).hi) (e d (omega arith)) ∙ f d (omega arith))

-- any other gets its number after its parts
pub visit_step : (N : List Node) (n : ℕ) (s a b : Marks) → 2 ≤ n → get_or s.marks (n - 2) 0 ≡ 0 → (at N (n - 2)).lo < n → (at N (n - 2)).hi < n →
    ((d : ℕ) → (at N (n - 2)).lo < d → mark d N (at N (n - 2)).lo s ≡ a) → ((d : ℕ) → (at N (n - 2)).hi < d → mark d N (at N (n - 2)).hi a ≡ b) →
    (d : ℕ) → n < d → mark d N n s ≡ give (n - 2) b
visit_step N n s a b h z lo hi e f zero l = absurd (omega arith)
visit_step N zero s a b h z lo hi e f (suc d) l = absurd (omega arith)
visit_step N (suc zero) s a b h z lo hi e f (suc d) l = absurd (omega arith)
visit_step N (suc (suc i)) s a b h z lo hi e f (suc d) l =
    subst (λ j. get_or s.marks j 0 ≡ 0 → (at N j).lo < suc (suc i) → (at N j).hi < suc (suc i) →
    ((d : ℕ) → (at N j).lo < d → mark d N (at N j).lo s ≡ a) → ((d : ℕ) → (at N j).hi < d → mark d N (at N j).hi a ≡ b) →
    mark (suc d) N (suc (suc i)) s ≡ give j b) (sym (two_off i)) (visit_at N i s a b d l) z lo hi e f

-- what is written for it
pub given_is : (ms os : List ℕ) (n count v : ℕ) → 2 ≤ n → count < length os → v ≡ count + 2 →
    give (n - 2) record { marks = ms; order = take count os } ≡ record { marks = set ms (n - 2) v; order = take (count + 1) (set os count n) }
given_is ms os n count v h room e =
    let long = length-take-le count os (omega arith) in
    let number : suc (suc (length (take count os))) ≡ v = omega arith in
    let own : suc (suc (n - 2)) ≡ n = omega arith in
    ap₂ (λ (x : ℕ) (l : List ℕ). record { marks = set ms (n - 2) x; order = l }) number
    (ap (λ k. take count os ++ (k ∷ [])) own ∙ sym (take_more_set os count n room))
