-- Pieces that are appended one after another.
use Rattle.std.proofs.Common.{◌≡◌, List, ◌++◌, ◌∙◌, append_assoc}

pub four_pieces : {A : Type 0} (o a b c d : List A) → (((o ++ a) ++ b) ++ c) ++ d ≡ o ++ (a ++ (b ++ (c ++ d)))
four_pieces o a b c d = append_assoc ((o ++ a) ++ b) c d ∙ append_assoc (o ++ a) b (c ++ d) ∙ append_assoc o a (b ++ (c ++ d))

pub eight_pieces : {A : Type 0} (o a b c d e f g h : List A) → (((((((o ++ a) ++ b) ++ c) ++ d) ++ e) ++ f) ++ g) ++ h ≡ o ++ (a ++ (b ++ (c ++ (d ++ (e ++ (f ++ (g ++ h)))))))
eight_pieces o a b c d e f g h =
    let rest = e ++ (f ++ (g ++ h)) in
    four_pieces ((((o ++ a) ++ b) ++ c) ++ d) e f g h ∙ append_assoc (((o ++ a) ++ b) ++ c) d rest ∙ four_pieces o a b c (d ++ rest)

pub seven_pieces : {A : Type 0} (o a b c d e f g : List A) → ((((((o ++ a) ++ b) ++ c) ++ d) ++ e) ++ f) ++ g ≡ o ++ (a ++ (b ++ (c ++ (d ++ (e ++ (f ++ g))))))
seven_pieces o a b c d e f g =
    let rest = d ++ (e ++ (f ++ g)) in
    four_pieces (((o ++ a) ++ b) ++ c) d e f g ∙ append_assoc ((o ++ a) ++ b) c rest ∙ append_assoc (o ++ a) b (c ++ rest) ∙ append_assoc o a (b ++ (c ++ rest))
