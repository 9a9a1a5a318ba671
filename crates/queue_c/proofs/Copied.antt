-- Items that are copied into a buffer, one after another.
use Rattle.std.proofs.Common.{◌≡◌, ℕ, ◌+◌, ◌<◌, List, [], ◌∷◌, ◌++◌, length, map, take, drop, set, get_or, sym, ap, ◌∙◌, append_assoc, arith}
use Rattle.std.proofs.lemmas.List.{drop_more, length-map, length-take-le, set_at, map_more}

-- one more item is copied: of the first ones, each by this function, and behind them is what the buffer had
pub copied_more : {X Y : Type 0} (f : X → Y) (from : List X) (was now : List Y) (i : ℕ) (x : X)
    → i < length from → i < length was → x ≡ get_or from i x → now ≡ map f (take i from) ++ drop i was
    → set now i (f x) ≡ map f (take (i + 1) from) ++ drop (i + 1) was
copied_more f from was now i x there within is so =
    let front = map f (take i from) in
    let rest = drop (i + 1) was in
    let whole : now ≡ front ++ get_or was i (f x) ∷ rest = so ∙ ap (λ q. front ++ q) (drop_more was i (f x) within) in
    let long : length front ≡ i = length-map (take i from) f ∙ length-take-le i from (omega (arith, there)) in
    let written : set now i (f x) ≡ front ++ f x ∷ rest = ap (λ q. set q i (f x)) whole ∙ set_at front (get_or was i (f x)) rest (f x) i long in
    let longer : map f (take (i + 1) from) ≡ front ++ f x ∷ [] = map_more f from i x there ∙ ap (λ z. front ++ f z ∷ []) (sym is) in
    written ∙ (sym (append_assoc front (f x ∷ []) rest) ∙ ap (λ q. q ++ rest) (sym longer))
