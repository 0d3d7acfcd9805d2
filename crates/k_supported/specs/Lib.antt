pub mod Supported
