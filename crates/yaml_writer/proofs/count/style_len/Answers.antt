use Rattle.yaml_writer.proofs.count.style_len.Goals as goal

pub write_style-requires : goal.write_style-requires
write_style-requires c = c.requires
