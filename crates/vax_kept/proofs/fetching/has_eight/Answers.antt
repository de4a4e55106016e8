use Rattle.std.proofs.Common.{◌≡◌, ℕ, zero, suc, ◌+◌, ◌*◌, ◌<◌, List, ap, ◌∙◌, sym, arith}
use Rattle.std.specs.Prelude.{slice_index}
use Rattle.vax_paged.specs.InPage.{number_from}
use Rattle.vax_table.proofs.Tests.{eq_of}
use Rattle.vax_kept.proofs.fetching.has_eight.Goals as goal

same_bytes : (k : ℕ) (xs ys : List ℕ) (p q : ℕ) → ((i : ℕ) → slice_index xs i < 256) → ((i : ℕ) → slice_index ys i < 256) → number_from xs k p ≡ number_from ys k q → (i : ℕ) → i < k → slice_index xs (p + i) ≡ slice_index ys (q + i)
same_bytes zero xs ys p q a b e i h = absurd (omega arith)
same_bytes (suc k) xs ys p q a b e i h =
    let whole : slice_index xs p + 256 * number_from xs k (p + 1) ≡ slice_index ys q + 256 * number_from ys k (q + 1) = e in
    let first : slice_index xs p ≡ slice_index ys q = omega (arith, a p, b q, whole) in
    let rest : number_from xs k (p + 1) ≡ number_from ys k (q + 1) = omega (arith, a p, b q, whole) in
    by_index k xs ys p q first (same_bytes k xs ys (p + 1) (q + 1) a b rest) i h
  where
    by_index : (k : ℕ) (xs ys : List ℕ) (p q : ℕ) → slice_index xs p ≡ slice_index ys q → ((i : ℕ) → i < k → slice_index xs (p + 1 + i) ≡ slice_index ys (q + 1 + i)) → (i : ℕ) → i < suc k → slice_index xs (p + i) ≡ slice_index ys (q + i)
    by_index k xs ys p q first rest zero h =
        let a : p + 0 ≡ p = omega arith in
        let b : q ≡ q + 0 = omega arith in
        ap (slice_index xs) a ∙ first ∙ ap (slice_index ys) b
    by_index k xs ys p q first rest (suc i) h =
        let a : p + suc i ≡ p + 1 + i = omega arith in
        let b : q + 1 + i ≡ q + suc i = omega arith in
        ap (slice_index xs) a ∙ rest i (omega arith) ∙ ap (slice_index ys) b

pub returns : goal.returns
returns c = λ e i h.
    let same : number_from c.args.memory.now 8 c.args.place ≡ number_from c.args.bytes.now 8 0 = sym c.number_in.ensures.is ∙ eq_of c.number_in.result c.number_in-2.result e ∙ c.number_in-2.ensures.is in
    let here : 0 + i ≡ i = omega arith in
    same_bytes 8 c.args.memory.now c.args.bytes.now c.args.place 0 (λ k. omega (arith, c.type_inv.memory k)) c.fits-bytes same i h ∙ ap (slice_index c.args.bytes.now) here
