-- What words alone ask for, and the answer where they can't be read.
use Rattle.std.specs.Prelude.{ℕ, List, [], ◌∷◌, ◌-◌, length, take, codes, if◌then◌else◌, Option, Some, None}
use Rattle.std.specs.declared.io.ErrorKind.{ErrorKind}
use Rattle.std.specs.declared.io.ErrorKind.TheVariants.{OutOfMemory}
use Rattle.vvmm_files.specs.Words.{is_word}
use Rattle.vvmm_files.specs.declared.status.Status.{Status}
use Rattle.vvmm_files.specs.declared.status.Status.TheVariants.{Words, NoMemory}
use Rattle.vv_edge.specs.declared.asked.TheConstants.{HELP, VERSION}

-- `--help` and `--version`, each by itself
abbrev pub text_asked : List (List ℕ) → Option (List ℕ)
text_asked (word ∷ []) = if is_word word (codes "--help") then Some HELP.now else if is_word word (codes "--version") then Some VERSION.now else None
text_asked words = None

-- the words that name files, where a command has lines: all but its name and the number at its end
abbrev pub files_named : {W : Type 0} → List W → List W
files_named [] = []
files_named (name ∷ words) = take (length words - 1) words

-- a word that isn't UTF-8 is a faulty command line
abbrev pub words_status : ErrorKind → Status
words_status OutOfMemory = NoMemory
words_status kind = Words
