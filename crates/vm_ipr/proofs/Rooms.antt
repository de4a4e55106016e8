-- A software interrupt's request has room among the sixteen.
use Rattle.std.proofs.Common.{◌≡◌, ◌≢◌, ℕ, zero, suc, ◌+◌, ◌/◌, ◌%◌, ◌^◌, ◌<◌, arith}

one_more : (k sisr : ℕ) → sisr < 2 ^ 16 → sisr / 2 ^ k % 2 ≢ 1 → k < 16 → sisr + 2 ^ k < 2 ^ 16
one_more zero sisr h e b = grind arith
one_more (suc zero) sisr h e b = grind arith
one_more (suc (suc zero)) sisr h e b = grind arith
one_more (suc (suc (suc zero))) sisr h e b = grind arith
one_more (suc (suc (suc (suc zero)))) sisr h e b = grind arith
one_more (suc (suc (suc (suc (suc zero))))) sisr h e b = grind arith
one_more (suc (suc (suc (suc (suc (suc zero)))))) sisr h e b = grind arith
one_more (suc (suc (suc (suc (suc (suc (suc zero))))))) sisr h e b = grind arith
one_more (suc (suc (suc (suc (suc (suc (suc (suc zero)))))))) sisr h e b = grind arith
one_more (suc (suc (suc (suc (suc (suc (suc (suc (suc zero))))))))) sisr h e b = grind arith
one_more (suc (suc (suc (suc (suc (suc (suc (suc (suc (suc zero)))))))))) sisr h e b = grind arith
one_more (suc (suc (suc (suc (suc (suc (suc (suc (suc (suc (suc zero))))))))))) sisr h e b = grind arith
one_more (suc (suc (suc (suc (suc (suc (suc (suc (suc (suc (suc (suc zero)))))))))))) sisr h e b = grind arith
one_more (suc (suc (suc (suc (suc (suc (suc (suc (suc (suc (suc (suc (suc zero))))))))))))) sisr h e b = grind arith
one_more (suc (suc (suc (suc (suc (suc (suc (suc (suc (suc (suc (suc (suc (suc zero)))))))))))))) sisr h e b = grind arith
one_more (suc (suc (suc (suc (suc (suc (suc (suc (suc (suc (suc (suc (suc (suc (suc zero))))))))))))))) sisr h e b = grind arith
one_more (suc (suc (suc (suc (suc (suc (suc (suc (suc (suc (suc (suc (suc (suc (suc (suc k)))))))))))))))) sisr h e b = absurd (omega arith)

pub room : (level sisr bit : ℕ) → bit ≡ 2 ^ level → sisr < 2 ^ 16 → sisr / bit % 2 ≢ 1 → level < 16 → sisr + bit < 2 ^ 16
room level sisr bit same h e b = rw same (one_more level sisr h (λ k. e (rw same k)) b)
