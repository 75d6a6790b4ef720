-- Lines 1 to 3 of a book, question by question. Assumes nothing.
use Rattle.std.proofs.Common.{◌≡◌, ℕ, List, get_or, Ok, Err, ap, ◌∙◌}
use Rattle.sheets.specs.declared.fault.Fault.{Fault}
use Rattle.sheets.specs.Lines.{after, names, values}
use Rattle.books.specs.declared.top.Book.{Book}
use Rattle.books.specs.Format.{head, order_name}
use Rattle.books.specs.Reading.{book_of, third, second, top}

module _ (text : List ℕ) where
  pub top_no_names : (f : Fault) → names head 1 text ≡ Err f → top text ≡ Err f
  unfolding top
  top_no_names f e = ap (λ r. after r (λ rest. after (values 2 2 rest) second)) e

  module _ (t : List ℕ) (one : names head 1 text ≡ Ok t) where
    pub top_no_values : (f : Fault) → values 2 2 t ≡ Err f → top text ≡ Err f
    unfolding top
    top_no_values f e = ap (λ r. after r (λ rest. after (values 2 2 rest) second)) one ∙ ap (λ r. after r second) e

    module _ (ns u : List ℕ) (two : values 2 2 t ≡ Ok (ns, u)) where
      pub top_is : top text ≡ second (ns, u)
      unfolding top
      top_is = ap (λ r. after r (λ rest. after (values 2 2 rest) second)) one ∙ ap (λ r. after r second) two

      pub top_no_book : (f : Fault) → book_of (get_or ns 0 0) (get_or ns 1 0) ≡ Err f → top text ≡ Err f
      top_no_book f e = top_is ∙ ap (λ r. after r (third u)) e

      module _ (b : Book) (three : book_of (get_or ns 0 0) (get_or ns 1 0) ≡ Ok b) where
        then_names : top text ≡ third u b
        then_names = top_is ∙ ap (λ r. after r (third u)) three

        pub top_no_order_name : (f : Fault) → names order_name 3 u ≡ Err f → top text ≡ Err f
        top_no_order_name f e = then_names ∙ ap (λ r. after r (λ rest. Ok (b, rest))) e

        pub top_ok : (rest : List ℕ) → names order_name 3 u ≡ Ok rest → top text ≡ Ok (b, rest)
        top_ok rest e = then_names ∙ ap (λ r. after r (λ rest. Ok (b, rest))) e
