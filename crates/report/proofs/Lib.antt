mod Lines
mod Reading
