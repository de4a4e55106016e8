-- Worked examples of whole texts, checked by computation.
use Rattle.std.specs.Prelude.{◌≡◌, ℕ, [], codes, None, Some, Ok, Err, refl}
use Rattle.std.specs.Fmt.{digits}
use Rattle.std.specs.Str.{is_utf8, chars}
use Rattle.toml.proofs.OnLiterals.{toml_on_literals}
use Rattle.sys_objects.specs.Faults.{fault}
use Rattle.sys_objects.specs.Judged.{validated}
use Rattle.sys_config.specs.Entries.{low_enough, named_line_of}
use Rattle.sys_config.specs.Reads.{◌>>=◌}
use Rattle.sys_config.specs.Top.{tables_at, top_level, top_of, top_of_one, top_of_two}
use Rattle.vv_class.specs.Text.{categories_below, class_in, class_text}
use Rattle.vv_class.specs.declared.class.AccessClass.{AccessClass}
use Rattle.sys_config.specs.Config.{numbers_of, rows_of, config_in, config_of}

three_lines : config_of (codes "version = 1\nquantum = 10\nslice = 3\n") ≡ Ok (record { slice = 3; audit = None; terminals = []; volumes = []; printers = []; guests = [] })
unfolding toml_on_literals is_utf8 chars top_of top_of_one top_of_two tables_at numbers_of rows_of validated config_in config_of
three_lines = refl

no_quantum : config_of (codes "version = 1\nquantum = 0\nslice = 3\n") ≡ Err (fault 3 0)
unfolding toml_on_literals is_utf8 chars top_of top_of_one top_of_two tables_at numbers_of rows_of validated config_in config_of
no_quantum = refl

version_three : config_of (codes "version = 3\nquantum = 10\nslice = 3\n") ≡ Err (fault 2 0)
unfolding toml_on_literals is_utf8 chars top_of top_of_one top_of_two tables_at numbers_of rows_of validated config_in config_of
version_three = refl

cut_inside_a_string : config_of (codes "version = \"1") ≡ Err (fault 0 0)
unfolding toml_on_literals is_utf8 chars top_of top_of_one top_of_two tables_at numbers_of rows_of validated config_in config_of
cut_inside_a_string = refl

without_a_class : config_of (codes "version = 2\nslice = 3\n[[terminal]]\nname = \"T1\"\nline = 0\n") ≡ Err (fault 6 0)
unfolding toml_on_literals is_utf8 chars named_line_of top_of top_of_one top_of_two tables_at numbers_of rows_of validated config_in config_of
without_a_class = refl

-- the highest level is 15 in version 1, whose quantum is given at the top, and 255 in version 2
abbrev secret : ℕ → AccessClass
secret n = record { secrecy = n; secrecy_cats = 0; integrity = 0; integrity_cats = 0 }

level_15_of_version_1 : (class_in (codes "15{};0{}") >>= low_enough (top_level (Some 10))) ≡ Some (secret 15)
unfolding class_in class_text categories_below digits
level_15_of_version_1 = refl

level_16_of_version_1 : (class_in (codes "16{};0{}") >>= low_enough (top_level (Some 10))) ≡ None
unfolding class_in class_text categories_below digits
level_16_of_version_1 = refl

level_16_of_version_2 : (class_in (codes "16{};0{}") >>= low_enough (top_level None)) ≡ Some (secret 16)
unfolding class_in class_text categories_below digits
level_16_of_version_2 = refl

level_256_of_version_2 : (class_in (codes "256{};0{}") >>= low_enough (top_level None)) ≡ None
unfolding class_in class_text categories_below digits
level_256_of_version_2 = refl
