-- Bytes written over others.
use Rattle.std.proofs.Common.{◌≡◌, ℕ, ◌+◌, ◌-◌, ◌<◌, ◌≤◌, List, ◌++◌, length, take, drop, replicate, sym, ap, ◌∙◌, arith, ⊎_elim, length-append}
use Rattle.std.proofs.lemmas.List.{take_all, drop_all, take-append-le, take-replicate, length-replicate, append-nil}
use Rattle.std.proofs.lemmas.Bool.{cases_lt}
use Rattle.std.proofs.Math.Seq.{take-append-add}
use Rattle.host_tree.specs.Trees.{overlaid, cut_to}

none-missing : (bytes : List ℕ) (start : ℕ) → start ≤ length bytes → take start bytes ≡ cut_to start bytes
none-missing bytes start l =
    let e : start - length bytes ≡ 0 = omega arith in
    sym (append-nil (take start bytes)) ∙ ap (λ (n : ℕ). take start bytes ++ replicate n 0) (sym e)

pub overlaid-within : (bytes content : List ℕ) (start : ℕ) → start + length content ≤ length bytes
    → take start bytes ++ (content ++ drop (start + length content) bytes) ≡ overlaid bytes start content
overlaid-within bytes content start l = ap (λ (xs : List ℕ). xs ++ (content ++ drop (start + length content) bytes)) (none-missing bytes start (omega arith))

-- so many of the bytes with so many zero bytes behind them
front-of-filled : (bytes : List ℕ) (start more : ℕ) → start - length bytes ≤ more → take start (bytes ++ replicate more 0) ≡ cut_to start bytes
front-of-filled bytes start more l = ⊎_elim
    (λ h. take-append-le start bytes (replicate more 0) (omega arith) ∙ none-missing bytes start (omega arith))
    (λ h.
    let e : start ≡ length bytes + (start - length bytes) = omega arith in
    ap (λ (n : ℕ). take n (bytes ++ replicate more 0)) e
    ∙ (take-append-add bytes (replicate more 0) (start - length bytes)
    ∙ (ap (λ (xs : List ℕ). bytes ++ xs) (take-replicate (start - length bytes) more 0 l)
    ∙ ap (λ (xs : List ℕ). xs ++ replicate (start - length bytes) 0) (sym (take_all start bytes h)))))
    (cases_lt start (length bytes))

pub overlaid-past : (bytes content : List ℕ) (start end : ℕ) → end ≡ start + length content → length bytes < end
    → take start (cut_to end bytes) ++ (content ++ drop (start + length content) (cut_to end bytes)) ≡ overlaid bytes start content
overlaid-past bytes content start end e l =
    let filled : cut_to end bytes ≡ bytes ++ replicate (end - length bytes) 0 = ap (λ (xs : List ℕ). xs ++ replicate (end - length bytes) 0) (take_all end bytes (omega arith)) in
    let long : length (bytes ++ replicate (end - length bytes) 0) ≡ end = omega (arith, length-append bytes (replicate (end - length bytes) 0), length-replicate {A = ℕ} (end - length bytes) 0) in
    let front : take start (cut_to end bytes) ≡ cut_to start bytes = ap (take start) filled ∙ front-of-filled bytes start (end - length bytes) (omega arith) in
    let back : drop (start + length content) (cut_to end bytes) ≡ drop (start + length content) bytes =
    ap (drop (start + length content)) filled
    ∙ (drop_all (start + length content) (bytes ++ replicate (end - length bytes) 0) (omega arith) ∙ sym (drop_all (start + length content) bytes (omega arith))) in
    λ i. front i ++ (content ++ back i)
