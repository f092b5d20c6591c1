pub mod ByComputing
