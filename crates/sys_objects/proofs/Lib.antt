pub mod FewLaws
pub mod Firsts
pub mod Judged
pub mod JudgedAgain
