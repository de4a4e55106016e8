use Rattle.std.proofs.Common.{◌≡◌, ◌++◌, ℕ, List, length, take, ap, subst, ◌∙◌}
use Rattle.std.proofs.Math.Seq.{take-append_seam}
use Rattle.vax_kept.proofs.fetching.with_zeros.Goals as goal

front_of : (n : ℕ) (xs ys : List ℕ) → length xs ≡ n → take n (xs ++ ys) ≡ xs
front_of n xs ys e = subst (λ (k : ℕ). take k (xs ++ ys) ≡ xs) e (take-append_seam xs ys)

pub returns : goal.returns
returns c =
    front_of (length c.args.bytes.now) c.copy_from_slice.new.self _ (ap (length {A = ℕ}) c.copy_from_slice.ensures.after) ∙ c.copy_from_slice.ensures.after
