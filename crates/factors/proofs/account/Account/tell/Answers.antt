use Rattle.std.proofs.Common.{◌∷◌, [], ◌++◌, ap, ap₂, ◌∙◌, inl, inr, codes, decimal, Ok, Err, Result, OnOk, arith}
use Rattle.std.proofs.lemmas.Fmt.{decimal_digit}
use Rattle.orders.specs.Refusals.{number}
use Rattle.factors.specs.Account.{account}
use Rattle.factors.proofs.account.Account.tell.Goals as goal

on_map : {A E : Type 0} (P Q : Type 0) (r : Result A E) → (P → Q) → OnOk r P → OnOk r Q
on_map P Q (Ok a) f h = f h
on_map P Q (Err e) f h = tt

pub returns-in-Ok : goal.returns-in-Ok
returns-in-Ok c =
    let tally = c.accept-number.ensures.tally in
    let told = ap (λ n. decimal n ++ (codes ": " ++ (account c.in-Ok.order ++ 10 ∷ []))) c.accept-number.ensures.line in
    on_map _ _ c.write.result
    (λ bytes. (_, bytes, inl (c.in-Ok.order, c.in-Ok.ensures, ap (λ t. t.orders) tally, ap (λ t. t.refused) tally, told)))
    c.write.ensures.bytes

pub returns-in-Err : goal.returns-in-Err
returns-in-Err c =
    let tally = c.refuse-number.ensures.tally in
    let why = c.number-why.ensures ∙ ap number c.in-Err.ensures.why in
    let three = ap decimal why ∙ decimal_digit 3 (omega arith) in
    let told = ap₂ (λ n d. decimal n ++ (codes ": refused " ++ (d ++ 10 ∷ []))) c.refuse-number.ensures.line three in
    on_map _ _ c.write-in-Err.result
    (λ bytes. (_, bytes, inr (c.in-Err.ensures.none, ap (λ t. t.orders) tally, ap (λ t. t.refused) tally, told)))
    c.write-in-Err.ensures.bytes
