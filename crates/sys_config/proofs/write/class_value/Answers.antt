use Rattle.sys_config.proofs.Ascii.{class_utf8}
use Rattle.sys_config.proofs.write.class_value.Goals as goal

pub text_value-requires : goal.text_value-requires
text_value-requires c = rw (c.bytes.ensures.value, c.write_class-text.ensures) (class_utf8 c.args.class.now c.requires)
