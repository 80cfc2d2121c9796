pub mod Yaml
pub mod private
