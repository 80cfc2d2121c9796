-- The lines of a YAML document, as they are put together (src/yaml.rt, src/line.rt)
pub mod YamlLines
