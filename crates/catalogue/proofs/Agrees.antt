-- Stores agree. Assumes nothing.
use Rattle.std.proofs.Common.{◌≡◌, ℕ, ◌≤◌, List, [], ◌∷◌, sym, refl, ap, ◌∙◌, subst, arith}
use Rattle.orders.specs.Chains.{ChainLaws}
use Rattle.orders.specs.declared.chain.Chain as chain
use Rattle.caches.specs.declared.Cache as cache
use Rattle.diagrams.specs.Moves.{Moves}
use Rattle.diagrams.specs.Table.{Sound}
use Rattle.diagrams.proofs.Sets.{one_number}
use Rattle.tables.proofs.Rows.{sound_of, rows_within}
use Rattle.store.specs.declared.shapes.Handle.{Handle}
use Rattle.store.specs.declared.store.Store.{Store}
use Rattle.store.specs.Views.{view}
use Rattle.store.proofs.Worked.{handle_there}
use Rattle.deposits.proofs.Agrees.{sheets_agree}
use Rattle.catalogue.specs.Calls.{Call, Reply, After, step}
use Rattle.catalogue.specs.Runs.{Runs, none, then}
use Rattle.catalogue.specs.Agreement.{Accepts, Has, SameSet, Agreement}

-- what stores with one view reply and become
runs_agree : {G C D : Type 0} {cg : chain.Ghosts G} {cc : cache.Ghosts C} {cd : cache.Ghosts D} {s s' : Store G C cg cc} {t t' : Store G D cg cd} (calls : List Call) {rs qs : List Reply} {ns ms : List ℕ}
    → Runs s calls s' rs ns → Runs t calls t' qs ms → view s ≡ view t → (rs ≡ qs) × (view s' ≡ view t')
runs_agree [] none none e = (refl, e)
runs_agree {cg = cg} (call ∷ calls) (then d r) (then f q) e =
    let both = d.after ∙ ap (λ w. step cg.CODE cg.table w call) e ∙ sym f.after in
    let rest = runs_agree calls r q (ap (λ (p : After). p.0) both) in
    (λ i. (both i).1 ∷ (rest.0 i), rest.1)

nodes_sound : {G C : Type 0} {cg : chain.Ghosts G} {cc : cache.Ghosts C} (s : Store G C cg cc) → Sound (view s).nodes
nodes_sound s = sound_of s.engine.table

module _ (g : Moves) (laws : ChainLaws g) where
  -- a set has one handle
  one_handle : {G C : Type 0} {cg : chain.Ghosts G} {cc : cache.Ghosts C} (s : Store G C cg cc) (h k : Handle) → Accepts (view s) h → Accepts (view s) k → SameSet g (view s) h (view s) k → h ≡ k
  one_handle s h k a b same =
      let p = handle_there (view s) h a in
      let q = handle_there (view s) k b in
      let season = p.0 ∙ sym q.0 in
      let number = one_number g laws (view s).nodes (nodes_sound s) h.number k.number p.1 q.1 same in
      λ i. record { season = season i; number = number i }

-- for every chain that keeps its laws, and any two caches
pub agreed : (G C D : Type 0) (cg : chain.Ghosts G) (cc : cache.Ghosts C) (cd : cache.Ghosts D) → ChainLaws cg.table → (1 ≤ cg.CODE) × (cg.CODE ≤ 255) → Agreement G C D cg cc cd
agreed G C D cg cc cd laws coded = record {
  one_handle = λ plan calls s replies entries r h k a b. (
    λ e o. (λ m. subst (λ x. Has cg.table (view s) x o) e m, λ m. subst (λ x. Has cg.table (view s) x o) (sym e) m),
    one_handle cg.table laws s h k a b,
  );
  one_answer = λ plan calls s t replies others entries counts r q. runs_agree calls r.runs q.runs (r.begun.view_is ∙ sym q.begun.view_is);
  one_sheet = λ plan scheme calls others s t replies answers entries counts r q h k a b.
      sheets_agree cg.CODE (omega (arith, coded.1)) cg.table laws (view s).nodes (view t).nodes (nodes_sound s) (nodes_sound t) h.number k.number
      (handle_there (view s) h a).1 (handle_there (view t) k b).1 (rows_within s.engine.table) (rows_within t.engine.table);
}
